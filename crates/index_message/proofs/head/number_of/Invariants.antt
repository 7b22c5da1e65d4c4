use Rattle.std.proofs.Common.{◌≡◌, ◌<◌, ◌^◌, drop}
use Rattle.std.specs.List.{list_all}
use Rattle.std.specs.Char.{is_ascii_digit}
use Rattle.std.specs.Str.Parse.{digits_value, digits_value_after}
use Rattle.index_message.proofs.head.number_of.Given as goal

-- the digits so far
abbrev pub invariant-loop-digit : goal.invariant-loop-digit
invariant-loop-digit l = record {
  value : digits_value_after 10 l.number (drop l.digit-index l.value) ≡ digits_value 10 l.value;
  small : l.number < 10 ^ l.digit-index;
  digits : list_all is_ascii_digit (drop l.digit-index l.value) ≡ list_all is_ascii_digit l.value;
}
