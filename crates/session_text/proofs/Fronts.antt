-- What stays a front of a text that grows.
use Rattle.std.proofs.Common.{◌≡◌, ◌∙◌, ◌+◌, ℕ, List, [], ◌∷◌, ◌++◌, take, get_or, Some, ap, sym, append_assoc}
use Rattle.std.proofs.lemmas.List.{take_more, flat_map_more}
use Rattle.std.proofs.lemmas.Option.{slice_get_within, unwrap_or-slice_get}
use Rattle.std.specs.Prelude.{slice_get, unwrap_or, flat_map, codes, decimal}
use Rattle.geo_base.specs.declared.link.Link.{Link}
use Rattle.session_text.specs.Reply.{tile_text, link_text}
use Rattle.std.proofs.Transfers.{starts_with_trans, starts_with_of_append}
use Rattle.std.specs.Io.{StartsWith}

-- the front of a front is a front
pub starts_before : (new mid old text : List ℕ) → mid ≡ old ++ text → StartsWith new mid → StartsWith new old
starts_before new mid old text grown front = starts_with_trans new mid old front (starts_with_of_append mid old text grown)

-- two pieces make a text
pub joins : (old mid new a b text : List ℕ) → mid ≡ old ++ a → new ≡ mid ++ b → a ++ b ≡ text → new ≡ old ++ text
joins old mid new a b text p q e = q ∙ ap (λ m. m ++ b) p ∙ append_assoc old a b ∙ ap (λ t. old ++ t) e

regroup : (old a b c d e f g h i j k : List ℕ) → (((((old ++ (a ++ b)) ++ (c ++ d)) ++ e) ++ (f ++ g)) ++ (h ++ i)) ++ (j ++ k) ≡ old ++ (a ++ b ++ c ++ d ++ e ++ f ++ g ++ h ++ i ++ j ++ k)
regroup old a b c d e f g h i j k = simp append_assoc

-- the pieces of a link make its text
pub link_joins : (l : Link) (old m₁ m₂ m₃ m₄ m₅ new : List ℕ) (layer id from to value : ℕ) → layer ≡ l.layer → id ≡ l.id → from ≡ l.from → to ≡ l.to → value ≡ l.value
    → m₁ ≡ old ++ (codes " " ++ decimal layer) → m₂ ≡ m₁ ++ (codes ":" ++ decimal id) → m₃ ≡ m₂ ++ tile_text l.tile
    → m₄ ≡ m₃ ++ (codes "[" ++ decimal from) → m₅ ≡ m₄ ++ (codes "," ++ decimal to) → new ≡ m₅ ++ (codes ")=" ++ decimal value)
    → new ≡ old ++ link_text l
link_joins l old m₁ m₂ m₃ m₄ m₅ new layer id from to value e₁ e₂ e₃ e₄ e₅ p₁ p₂ p₃ p₄ p₅ p₆ =
    let q₁ : m₁ ≡ old ++ (codes " " ++ decimal l.layer) = p₁ ∙ ap (λ n. old ++ (codes " " ++ decimal n)) e₁ in
    let q₂ : m₂ ≡ m₁ ++ (codes ":" ++ decimal l.id) = p₂ ∙ ap (λ n. m₁ ++ (codes ":" ++ decimal n)) e₂ in
    let q₄ : m₄ ≡ m₃ ++ (codes "[" ++ decimal l.from) = p₄ ∙ ap (λ n. m₃ ++ (codes "[" ++ decimal n)) e₃ in
    let q₅ : m₅ ≡ m₄ ++ (codes "," ++ decimal l.to) = p₅ ∙ ap (λ n. m₄ ++ (codes "," ++ decimal n)) e₄ in
    let q₆ : new ≡ m₅ ++ (codes ")=" ++ decimal l.value) = p₆ ∙ ap (λ n. m₅ ++ (codes ")=" ++ decimal n)) e₅ in
    q₆
    ∙ ap (λ m. m ++ (codes ")=" ++ decimal l.value)) q₅
    ∙ ap (λ m. (m ++ (codes "," ++ decimal l.to)) ++ (codes ")=" ++ decimal l.value)) q₄
    ∙ ap (λ m. ((m ++ (codes "[" ++ decimal l.from)) ++ (codes "," ++ decimal l.to)) ++ (codes ")=" ++ decimal l.value)) p₃
    ∙ ap (λ m. (((m ++ tile_text l.tile) ++ (codes "[" ++ decimal l.from)) ++ (codes "," ++ decimal l.to)) ++ (codes ")=" ++ decimal l.value)) q₂
    ∙ ap (λ m. ((((m ++ (codes ":" ++ decimal l.id)) ++ tile_text l.tile) ++ (codes "[" ++ decimal l.from)) ++ (codes "," ++ decimal l.to)) ++ (codes ")=" ++ decimal l.value)) q₁
    ∙ regroup old (codes " ") (decimal l.layer) (codes ":") (decimal l.id) (tile_text l.tile) (codes "[") (decimal l.from) (codes ",") (decimal l.to) (codes ")=") (decimal l.value)

-- the text of one more member
pub member_joins : {X : Type 0} (f : X → List ℕ) (old mid new : List ℕ) (xs : List X) (i : ℕ) (x : X) → slice_get xs i ≡ Some x → mid ≡ old ++ flat_map f (take i xs) → new ≡ mid ++ f x
    → new ≡ old ++ flat_map f (take (i + 1) xs)
member_joins {X} f old mid new xs i x at p q =
    let here : get_or xs i x ≡ x = sym (unwrap_or-slice_get xs i x) ∙ ap (λ o. unwrap_or o x) at in
    let longer : take (i + 1) xs ≡ take i xs ++ x ∷ [] = take_more xs i x (slice_get_within xs i x at) ∙ ap (λ (y : X). take i xs ++ y ∷ []) here in
    q ∙ ap (λ m. m ++ f x) p ∙ flat_map_more f old (take i xs) x ∙ ap (λ l. old ++ flat_map f l) (sym longer)

-- a mark and a number, another mark and number, and an end
pub pairs_join : (old mid next new a b c d e : List ℕ) → mid ≡ old ++ (a ++ b) → next ≡ mid ++ (c ++ d) → new ≡ next ++ e → new ≡ old ++ (a ++ b ++ c ++ d ++ e)
pairs_join old mid next new a b c d e p q r =
    r ∙ ap (λ m. m ++ e) (q ∙ ap (λ m. m ++ (c ++ d)) p)
    ∙ (append_assoc (old ++ (a ++ b)) (c ++ d) e ∙ append_assoc old (a ++ b) ((c ++ d) ++ e)
    ∙ ap (λ l. old ++ l) (sym (append_assoc (a ++ b) (c ++ d) e) ∙ ap (λ l. l ++ e) (sym (append_assoc (a ++ b) c d))))
