use Rattle.feature_reader.proofs.WorkedFeatures.{no_id, large_id, no_tiles, other_zoom, no_tile, unfinished, good, below_zero, broken_score, other_relevance, two_parts, empty_part, repeated_part, listed_language, unlisted_language, broken_language, low_relevance}
use Rattle.feature_reader.proofs.WorkedLanguages.{two_languages, unlisted_beside_listed}
use Rattle.feature_reader.proofs.laws.worked_features.Goals as goal

pub returns : goal.returns
returns c =
    record {
      no_id = no_id;
      large_id = large_id;
      no_tiles = no_tiles;
      other_zoom = other_zoom;
      no_tile = no_tile;
      unfinished = unfinished;
      new_york = good;
      below_zero = below_zero;
      broken_score = broken_score;
      other_relevance = other_relevance;
      two_parts = two_parts;
      empty_part = empty_part;
      repeated_part = repeated_part;
      listed_language = listed_language;
      unlisted_language = unlisted_language;
      two_languages = two_languages;
      unlisted_beside_listed = unlisted_beside_listed;
      broken_language = broken_language;
      low_relevance = low_relevance;
    }
