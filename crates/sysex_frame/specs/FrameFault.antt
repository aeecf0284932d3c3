-- The faults of bytes that are no message, as a table of conditions on all of them.
use Rattle.std.specs.Prelude.{ℕ, ◌+◌, ◌-◌, ◌*◌, ◌/◌, ◌%◌, Bool, true, false, ◌&&◌, ◌||◌, not, nat_lt, nat_le, ◌==◌, if◌then◌else◌, List, []}
use Rattle.std.specs.Prelude.{◌∷◌, length, slice_index, slice_range}
use Rattle.std.specs.declared.option.Option.{Option}
use Rattle.std.specs.declared.option.Option.TheVariants.{None, Some}
use Rattle.std.specs.Option.{option_map, option_or}
use Rattle.std.specs.List.{position}
use Rattle.voice_record.specs.Voice.{greatest_value}
use Rattle.sysex_frame.specs.Checksum.{checksum_of}
use Rattle.sysex_frame.specs.declared.frame.FrameFault.{FrameFault}
use Rattle.sysex_frame.specs.declared.frame.FrameFault.TheVariants.{NotFramed, NotYamaha, DataByte, Short, UnknownSubstatus}
use Rattle.sysex_frame.specs.declared.frame.FrameFault.TheVariants.{UnknownFormat, CountBytes, Length, Checksum, ParamValue}

-- the parts of a message, by their places
abbrev pub last : List ℕ → ℕ
last message = slice_index message (length message - 1)

-- 0 a dump, 1 a parameter change, 2 a request
abbrev pub substatus : List ℕ → ℕ
substatus message = slice_index message 2 / 16

abbrev pub device : List ℕ → ℕ
device message = slice_index message 2 % 16

-- of a dump: 0 one voice, 9 thirty-two voices
abbrev pub format : List ℕ → ℕ
format message = slice_index message 3

-- of a parameter change
abbrev pub group : List ℕ → ℕ
group message = slice_index message 3 / 4 % 32

abbrev pub number : List ℕ → ℕ
number message = slice_index message 3 % 4 * 128 + slice_index message 4

-- of a dump: all between the count bytes and the checksum
abbrev pub payload : List ℕ → List ℕ
payload message = slice_range message 6 (length message - 2)

abbrev pub check : List ℕ → ℕ
check message = slice_index message (length message - 2)

-- a row of the table: its fault where its condition holds
abbrev pub where_true : Bool → FrameFault → Option FrameFault
where_true condition fault = if condition then Some fault else None

-- the message is shorter than 2 bytes, doesn't begin with F0, or doesn't end with F7
abbrev pub not_framed : List ℕ → Option FrameFault
not_framed message = where_true (nat_lt (length message) 2 || (not (slice_index message 0 == 0xF0) || not (last message == 0xF7))) NotFramed

-- its second byte isn't Yamaha's number
abbrev pub not_yamaha : List ℕ → Option FrameFault
not_yamaha message = where_true (not (slice_index message 1 == 0x43)) NotYamaha

-- a byte of 128 or more stands between its second byte and its last; the first such place
abbrev pub data_byte : List ℕ → Option FrameFault
data_byte message = option_map (λ k. DataByte (k + 2)) (position (λ b. nat_le 128 b) (slice_range message 2 (length message - 1)))

-- it has fewer than 5 bytes
abbrev pub too_short : List ℕ → Option FrameFault
too_short message = where_true (nat_lt (length message) 5) (Short (length message))

-- its substatus is 3 or more
abbrev pub unknown_substatus : List ℕ → Option FrameFault
unknown_substatus message = where_true (nat_le 3 (substatus message)) (UnknownSubstatus (substatus message))

-- it is a dump of an unknown format
abbrev pub unknown_format : List ℕ → Option FrameFault
unknown_format message =
    where_true (substatus message == 0 && (not (format message == 0) && not (format message == 9))) (UnknownFormat (format message))

-- the count bytes of a format are these two
abbrev pub has_count : List ℕ → ℕ → ℕ → Bool
has_count message high low = slice_index message 4 == high && slice_index message 5 == low

-- it is a dump of 7 bytes or more whose count bytes aren't those of its format
abbrev pub wrong_count : List ℕ → Option FrameFault
wrong_count message =
    where_true
    (substatus message == 0
    && (nat_le 7 (length message)
    && ((format message == 0 && not (has_count message 0x01 0x1B)) || (format message == 9 && not (has_count message 0x20 0x00)))))
    (CountBytes (slice_index message 4) (slice_index message 5))

-- the length that a message has to have, or at least
abbrev pub wanted_length : List ℕ → ℕ
wanted_length message = if substatus message == 0 then (if format message == 0 then 163 else 4104) else 7

abbrev pub has_length : List ℕ → Bool
has_length message =
    if substatus message == 0 then length message == wanted_length message
    else (if substatus message == 1 then (if group message == 0 then length message == 7 else nat_le 7 (length message)) else true)

-- its length isn't that of its kind
abbrev pub wrong_length : List ℕ → Option FrameFault
wrong_length message = where_true (not (has_length message)) (Length (length message) (wanted_length message))

-- it is a dump, and the byte before the last isn't the checksum of the payload
abbrev pub wrong_checksum : List ℕ → Option FrameFault
wrong_checksum message =
    where_true
    (substatus message == 0 && not (check message == checksum_of (payload message)))
    (Checksum (check message) (checksum_of (payload message)))

-- it changes a parameter of the voice or the operator switch to a value above its greatest
abbrev pub high_value : List ℕ → Option FrameFault
high_value message =
    where_true
    (substatus message == 1
    && (group message == 0 && (nat_le (number message) 155 && nat_lt (greatest_value (number message)) (slice_index message 5))))
    (ParamValue (number message) (slice_index message 5))

-- the rows in their order
abbrev pub fault_table : List (List ℕ → Option FrameFault)
fault_table =
    not_framed
    ∷ not_yamaha
    ∷ data_byte
    ∷ too_short
    ∷ unknown_substatus
    ∷ unknown_format
    ∷ wrong_count
    ∷ wrong_length
    ∷ wrong_checksum
    ∷ high_value
    ∷ []

-- the first of some rows whose condition holds
abbrev pub first_of : List (List ℕ → Option FrameFault) → List ℕ → Option FrameFault
first_of [] message = None
first_of (row ∷ rows) message = option_or (row message) (first_of rows message)

-- the first fault, or none
unfoldable pub first_fault : List ℕ → Option FrameFault
first_fault message = first_of fault_table message

-- a message of another manufacturer, or of a kind that the DX7 doesn't know: none of the DX7's at all
abbrev pub is_foreign : FrameFault → Bool
is_foreign NotFramed = false
is_foreign NotYamaha = true
is_foreign (DataByte place) = false
is_foreign (Short length) = false
is_foreign (UnknownSubstatus found) = true
is_foreign (UnknownFormat found) = true
is_foreign (CountBytes high low) = false
is_foreign (Length found wanted) = false
is_foreign (Checksum found wanted) = false
is_foreign (ParamValue number value) = false
