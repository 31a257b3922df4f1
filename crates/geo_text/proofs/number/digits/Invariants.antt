use Rattle.std.proofs.Common.{◌≡◌, ◌<◌, ◌^◌, take, true, length, ◌≤◌}
use Rattle.std.specs.List.{list_all}
use Rattle.std.specs.Char.{is_ascii_digit}
use Rattle.geo_text.specs.Numbers.{digits_value}
use Rattle.geo_text.proofs.number.digits.Given as goal

-- the digits so far, and their value
abbrev pub invariant-loop-b : goal.invariant-loop-b
invariant-loop-b l = record {
  value : l.n ≡ digits_value (take l.b-index l.text);
  digits : list_all is_ascii_digit (take l.b-index l.text) ≡ true;
  below : l.n < 10 ^ l.b-index;
  short : length l.text ≤ l.most;
  most : l.most ≤ 18;
}
