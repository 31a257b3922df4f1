-- A list that grows at its end, and what its strings name.
use Rattle.std.proofs.Common.{◌≡◌, List, [], ◌∷◌, ◌++◌, Bool, true, false, Option, Some, None, option_and_then, refl, sym, ap, ◌∙◌}
use Rattle.json.specs.Token.{Token}
use Rattle.json.specs.Json.{parse_map}
use Rattle.serde_json.specs.Data as of
use Rattle.serde_json.specs.Data.{Data, Items, no_items, item}
use Rattle.serde_json.specs.Find.{as_str}
use Rattle.geo_base.specs.TileView.{TileView}
use Rattle.geo_layer.specs.Json.{list_of, each_of}
use Rattle.feature_json.specs.Shape.{Shape, shape, text_of}
use Rattle.feature_json.specs.Tiles.{tile_of, tile_in}
use Rattle.feature_json.specs.Said.{kept}

-- ---- values before others

-- the values in front of items
abbrev pub before : List Data → Items → Items
before [] rest = rest
before (d ∷ ds) rest = item d (before ds rest)

pub list_before : (ds : List Data) → list_of (before ds no_items) ≡ ds
list_before [] = refl
list_before (d ∷ ds) = ap (λ es. d ∷ es) (list_before ds)

before_more : (ds : List Data) (d : Data) (rest : Items) → before ds (item d rest) ≡ before (ds ++ d ∷ []) rest
before_more [] d rest = refl
before_more (e ∷ ds) d rest = ap (item e) (before_more ds d rest)

pub one_more_before : (ds : List Data) (d : Data) (r : Option (Items × List Token)) → parse_map (before ds) (parse_map (item d) r) ≡ parse_map (before (ds ++ d ∷ [])) r
one_more_before ds d None = refl
one_more_before ds d (Some p) = ap (λ es. Some (es, p.1)) (before_more ds d p.0)

pub nothing_before : (r : Option (Items × List Token)) → r ≡ parse_map (before []) r
nothing_before None = refl
nothing_before (Some p) = refl

-- ---- what each value gives

-- one more at the end, where all are there
abbrev pub joined : {B : Type 0} → Option (List B) → Option B → Option (List B)
joined None x = None
joined (Some ys) None = None
joined (Some ys) (Some x) = Some (ys ++ x ∷ [])

module _ {A B : Type 0} (f : A → Option B) where
  joined_more : (y : Option B) (o : Option (List B)) (x : Option B) → option_and_then (λ z. option_and_then (λ ys. Some (z ∷ ys)) (joined o x)) y ≡ joined (option_and_then (λ z. option_and_then (λ ys. Some (z ∷ ys)) o) y) x
  joined_more None o x = refl
  joined_more (Some y) None x = refl
  joined_more (Some y) (Some ys) None = refl
  joined_more (Some y) (Some ys) (Some x) = refl

  joined_last : (x : Option B) → option_and_then (λ y. Some (y ∷ [])) x ≡ joined (Some []) x
  joined_last None = refl
  joined_last (Some x) = refl

  pub each_of_more : (xs : List A) (x : A) → each_of f (xs ++ x ∷ []) ≡ joined (each_of f xs) (f x)
  each_of_more [] x = joined_last (f x)
  each_of_more (y ∷ xs) x = ap (λ o. option_and_then (λ z. option_and_then (λ ys. Some (z ∷ ys)) o) (f y)) (each_of_more xs x) ∙ joined_more (f y) (each_of f xs) (f x)

-- ---- what a list names

-- the text of a value is that of its shape
pub as_text : (d : Data) → as_str d ≡ text_of (shape d)
as_text of.null = refl
as_text (of.boolean b) = refl
as_text (of.number n) = refl
as_text (of.string s) = refl
as_text (of.array ds) = refl
as_text (of.object ms) = refl

-- what a value names is what its text does
named_is : (d : Data) (s : Shape) → shape d ≡ s → tile_in d ≡ option_and_then tile_of (text_of s)
named_is d s e = ap (option_and_then tile_of) (as_text d) ∙ ap (λ x. option_and_then tile_of (text_of x)) e

-- one more value, which names a tile
pub some_named : (good : Bool) (xs : List TileView) (d : Data) (ds : List Data) (s : Shape) (tile : TileView) → Some tile ≡ option_and_then tile_of (text_of s) → shape d ≡ s → kept good xs ≡ each_of tile_in ds
    → kept good (xs ++ tile ∷ []) ≡ each_of tile_in (ds ++ d ∷ [])
some_named true xs d ds s tile is seen old = ap (λ o. joined o (Some tile)) old ∙ ap (joined (each_of tile_in ds)) (is ∙ sym (named_is d s seen)) ∙ sym (each_of_more tile_in ds d)
some_named false xs d ds s tile is seen old = ap (λ o. joined o (Some tile)) old ∙ ap (joined (each_of tile_in ds)) (is ∙ sym (named_is d s seen)) ∙ sym (each_of_more tile_in ds d)

joined_none : (o : Option (List TileView)) → None ≡ joined o None
joined_none None = refl
joined_none (Some xs) = refl

-- one more value, which names none
pub none_named : (d : Data) (ds : List Data) (s : Shape) → None ≡ option_and_then tile_of (text_of s) → shape d ≡ s → None ≡ each_of tile_in (ds ++ d ∷ [])
none_named d ds s is seen = joined_none (each_of tile_in ds) ∙ ap (joined (each_of tile_in ds)) (is ∙ sym (named_is d s seen)) ∙ sym (each_of_more tile_in ds d)
