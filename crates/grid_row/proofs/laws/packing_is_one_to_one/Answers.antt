use Rattle.grid_row.proofs.PackedFacts.{unpacked-packed, packed_fits, packed-unpacked, IsRow-unpacked}
use Rattle.grid_row.proofs.laws.packing_is_one_to_one.Goals as goal

pub returns : goal.returns
returns c = record { unpacks = unpacked-packed; fits = packed_fits; packs = packed-unpacked; row = IsRow-unpacked }
