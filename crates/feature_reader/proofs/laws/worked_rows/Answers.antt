use Rattle.feature_reader.proofs.WorkedRows.{paris_is, no_number, three_fields, five_fields, no_fields, id_no_utf8, text_no_utf8, score_no_utf8, highest_id, large_id, long_id, empty_id, no_tiles, blank_tiles, broken_tile, repeated_tile, other_zoom, empty_score, score_zero, below_zero, broken_score, plus_score, minus_alone, eighteen_digits, nineteen_digits}
use Rattle.feature_reader.proofs.laws.worked_rows.Goals as goal

pub returns : goal.returns
returns c =
    record {
      paris = paris_is;
      no_number = no_number;
      three_fields = three_fields;
      five_fields = five_fields;
      no_fields = no_fields;
      id_no_utf8 = id_no_utf8;
      text_no_utf8 = text_no_utf8;
      score_no_utf8 = score_no_utf8;
      highest_id = highest_id;
      large_id = large_id;
      long_id = long_id;
      empty_id = empty_id;
      no_tiles = no_tiles;
      blank_tiles = blank_tiles;
      broken_tile = broken_tile;
      repeated_tile = repeated_tile;
      other_zoom = other_zoom;
      empty_score = empty_score;
      score_zero = score_zero;
      below_zero = below_zero;
      broken_score = broken_score;
      plus_score = plus_score;
      minus_alone = minus_alone;
      eighteen_digits = eighteen_digits;
      nineteen_digits = nineteen_digits;
    }
