-- For private contracts alone: tokens as one text.
use Rattle.std.specs.Prelude.{◌≡◌, ℕ, List, length, min, string_bytes}
use Rattle.geo_text.specs.Tokens.{joined}
use Rattle.geo_text.specs.declared.token_sink.JoinedTokens.{JoinedTokens}

-- the text is that of these tokens, which are counted up to 21
abbrev pub IsJoined : JoinedTokens → List (List ℕ) → Type 0
IsJoined j tokens = (string_bytes j.text ≡ joined tokens) × (j.count ≡ min (length tokens) 21)
