-- The cause values that this exchange gives or knows (ITU-T Q.931 (05/98), 4.5.12), named as in ITU-T Q.850.
use Rattle.std.specs.Prelude.{ℕ}

abbrev pub unallocated_number : ℕ
unallocated_number = 1

abbrev pub normal_call_clearing : ℕ
normal_call_clearing = 16

abbrev pub user_busy : ℕ
user_busy = 17

abbrev pub no_user_responding : ℕ
no_user_responding = 18

abbrev pub no_answer_from_user : ℕ
no_answer_from_user = 19

abbrev pub destination_out_of_order : ℕ
destination_out_of_order = 27

abbrev pub invalid_number_format : ℕ
invalid_number_format = 28

abbrev pub response_to_status_enquiry : ℕ
response_to_status_enquiry = 30

abbrev pub normal_unspecified : ℕ
normal_unspecified = 31

abbrev pub no_channel_available : ℕ
no_channel_available = 34

abbrev pub temporary_failure : ℕ
temporary_failure = 41

abbrev pub switching_equipment_congestion : ℕ
switching_equipment_congestion = 42

abbrev pub requested_channel_not_available : ℕ
requested_channel_not_available = 44

abbrev pub bearer_capability_not_implemented : ℕ
bearer_capability_not_implemented = 65

abbrev pub invalid_call_reference : ℕ
invalid_call_reference = 81

abbrev pub mandatory_element_missing : ℕ
mandatory_element_missing = 96

abbrev pub message_type_not_implemented : ℕ
message_type_not_implemented = 97

abbrev pub invalid_element_contents : ℕ
invalid_element_contents = 100

abbrev pub message_not_compatible_with_call_state : ℕ
message_not_compatible_with_call_state = 101

abbrev pub recovery_on_timer_expiry : ℕ
recovery_on_timer_expiry = 102
