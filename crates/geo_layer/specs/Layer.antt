-- Layers, and which of them may stand in one context.
use Rattle.std.specs.Prelude.{◌≡◌, ℕ, Bool, true, false, ◌<◌, ◌≤◌, ◌&&◌, ◌||◌, ◌==◌, not, nat_le, List, length, bytes_eq, slice_get, All, AllPairs, Option, Some, None, IfSome}
use Rattle.std.specs.List.{list_all, list_any}
use Rattle.std.specs.Int.{is_in_range}
use Rattle.geo_base.specs.Job.{compat_of}
use Rattle.geo_text.specs.Tokens.{Replacements}
use Rattle.geo_text.specs.Words.{IsWord}

-- a layer of features: its name, the zoom of their tiles, the words by which layers may be stacked, the scale of scores, and what tokens are replaced by
pub record LayerView : Type 0 where
  pub name : List ℕ
  pub zoom : ℕ
  pub stack : Option (List (List ℕ))
  pub scoremax : ℕ
  pub tokens : Replacements

-- a name: 1 to 32 characters out of a to z, 0 to 9, `_` and `-`
abbrev pub is_name : List ℕ → Bool
is_name text = nat_le 1 (length text) && (nat_le (length text) 32 && list_all (λ c. is_in_range 97 122 c || (is_in_range 48 57 c || (c == 95 || c == 45))) text)

-- words by which layers are stacked: at most 64 names
abbrev pub are_stack_words : List (List ℕ) → Bool
are_stack_words words = nat_le (length words) 64 && list_all is_name words

-- what the type of a layer keeps
pub record IsLayer (layer : LayerView) : Type 0 where
  pub name : is_name layer.name ≡ true
  pub zoom : layer.zoom ≤ 16
  pub stack : IfSome layer.stack (λ words. are_stack_words words ≡ true)
  pub scale : 1 ≤ layer.scoremax
  pub scale_bound : layer.scoremax ≤ 1000000000
  pub few : length layer.tokens ≤ 4096
  pub words : All (λ r. IsWord r.0 × IsWord r.1) layer.tokens

-- what the type of a list of layers keeps: at most 16, whose zooms never fall
pub record AreLayers (layers : List LayerView) : Type 0 where
  pub few : length layers ≤ 16
  pub each : All IsLayer layers
  pub rising : AllPairs (λ a b. a.zoom ≤ b.zoom) layers

-- the lists share a word; an absent list shares with every list, an empty one with an absent one alone
abbrev pub share_word : Option (List (List ℕ)) → Option (List (List ℕ)) → Bool
share_word None ys = true
share_word (Some xs) None = true
share_word (Some xs) (Some ys) = list_any (λ x. list_any (bytes_eq x) ys) xs

-- two layers are compatible where their names differ and their stacks share a word
abbrev pub are_compatible : LayerView → LayerView → Bool
are_compatible a b = not (bytes_eq a.name b.name) && share_word a.stack b.stack

-- both layers are there and are compatible
abbrev pub both_compatible : Option LayerView → Option LayerView → Bool
both_compatible (Some a) (Some b) = are_compatible a b
both_compatible None b = false
both_compatible a None = false

-- the layers with these numbers are compatible
abbrev pub compat : List LayerView → ℕ → ℕ → Bool
compat layers a b = both_compatible (slice_get layers a) (slice_get layers b)

-- rows of bits that say which of the layers are compatible, for numbers below 16
abbrev pub AreStacks : List LayerView → List ℕ → Type 0
AreStacks layers rows = (a b : ℕ) → a < 16 → b < 16 → compat_of rows a b ≡ compat layers a b
