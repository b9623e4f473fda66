mod SeatLemmas
