-- The classes of restart: the octets of a restart indicator, the top bit and a class (ITU-T Q.931 (05/98), 4.5.25).
use Rattle.std.specs.Prelude.{ℕ}

abbrev pub indicated_channels : ℕ
indicated_channels = 0x80

abbrev pub single_interface : ℕ
single_interface = 0x86

abbrev pub all_interfaces : ℕ
all_interfaces = 0x87
