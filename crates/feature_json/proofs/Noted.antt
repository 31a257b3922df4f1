-- What a new member changes of those that count.
use Rattle.std.proofs.Common.{◌≡◌, ℕ, List, true, false, codes, bytes_eq, Option, Some, option_map, option_and_then, refl, sym, ap, ◌∙◌}
use Rattle.serde_json.specs.Data.{Data, Members, put}
use Rattle.serde_json.specs.Find.{as_object, get_member}
use Rattle.feature_json.specs.Shape.{Shape, shape}
use Rattle.geo_base.specs.TileView.{TileView}
use Rattle.feature_json.specs.Tiles.{all_tiles}
use Rattle.feature_json.specs.Own.{is_own_name, own_members, put_own}
use Rattle.feature_json.specs.Said.{SaidValues, values_said, SaidProperties, properties_said, Said, members_said}
use Rattle.feature_json.specs.Reading.{Rising}
use Rattle.feature_json.proofs.Owned.{own_members-put, own_members-put_other}
use Rattle.feature_json.proofs.Objects.{same, at_name, at_other}

-- ---- the properties, but for the tiles

abbrev pub four : Option Shape → Option Shape → Option Shape → List (List ℕ × Shape) → SaidValues
four t s r o = record { text = t; score = s; relev = r; own = o }

-- each field alike
made : (t u s v r w : Option Shape) (o q : List (List ℕ × Shape)) → t ≡ u → s ≡ v → r ≡ w → o ≡ q → four t s r o ≡ four u v w q
made t u s v r w o q a b c e = ap (λ x. four x s r o) a ∙ ap (λ x. four u x r o) b ∙ ap (λ x. four u v x o) c ∙ ap (four u v w) e

module _ (k : List ℕ) (d : Data) (found : Members) (p : SaidValues) (old : p ≡ values_said found) where
  -- the shape at a name of another member
  stays : (q name : List ℕ) (o : Option Shape) → o ≡ option_map shape (get_member q found) → k ≡ name → bytes_eq name q ≡ false → o ≡ option_map shape (get_member q (put k d found))
  stays q name o was is other = was ∙ sym (ap (option_map shape) (at_other k q d found (ap (λ x. bytes_eq x q) is ∙ other)))

  -- and that at a name that the new one has not
  remains : (q : List ℕ) (o : Option Shape) → o ≡ option_map shape (get_member q found) → false ≡ bytes_eq k q → o ≡ option_map shape (get_member q (put k d found))
  remains q o was other = was ∙ sym (ap (option_map shape) (at_other k q d found (sym other)))

  -- the shape at the name of the new member
  comes : (q : List ℕ) (s : Shape) → shape d ≡ s → k ≡ q → Some s ≡ option_map shape (get_member q (put k d found))
  comes q s seen is = ap Some (sym seen) ∙ sym (ap (option_map shape) (at_name k q d found is))

  -- the texts in languages, where the name is none of theirs
  no_own : (name : List ℕ) → k ≡ name → is_own_name name ≡ false → p.own ≡ own_members (put k d found)
  no_own name is other = ap (λ q. q.own) old ∙ sym (own_members-put_other k d found (ap is_own_name is ∙ other))

  -- after a member of each name
  pub note_text : (s : Shape) → shape d ≡ s → true ≡ bytes_eq k (codes "carmen:text") → four (Some s) p.score p.relev p.own ≡ values_said (put k d found)
  note_text s seen e =
      let is = same k (codes "carmen:text") e in
      made _ _ _ _ _ _ _ _ (comes (codes "carmen:text") s seen is) (stays (codes "carmen:score") _ _ (ap (λ q. q.score) old) is refl) (stays (codes "carmen:relev") _ _ (ap (λ q. q.relev) old) is refl)
      (no_own (codes "carmen:text") is refl)

  pub note_score : (s : Shape) → shape d ≡ s → true ≡ bytes_eq k (codes "carmen:score") → four p.text (Some s) p.relev p.own ≡ values_said (put k d found)
  note_score s seen e =
      let is = same k (codes "carmen:score") e in
      made _ _ _ _ _ _ _ _ (stays (codes "carmen:text") _ _ (ap (λ q. q.text) old) is refl) (comes (codes "carmen:score") s seen is) (stays (codes "carmen:relev") _ _ (ap (λ q. q.relev) old) is refl)
      (no_own (codes "carmen:score") is refl)

  pub note_relev : (s : Shape) → shape d ≡ s → true ≡ bytes_eq k (codes "carmen:relev") → four p.text p.score (Some s) p.own ≡ values_said (put k d found)
  note_relev s seen e =
      let is = same k (codes "carmen:relev") e in
      made _ _ _ _ _ _ _ _ (stays (codes "carmen:text") _ _ (ap (λ q. q.text) old) is refl) (stays (codes "carmen:score") _ _ (ap (λ q. q.score) old) is refl) (comes (codes "carmen:relev") s seen is)
      (no_own (codes "carmen:relev") is refl)

  -- a name that is none of the three
  others : (o : List (List ℕ × Shape)) → o ≡ own_members (put k d found) → false ≡ bytes_eq k (codes "carmen:text") → false ≡ bytes_eq k (codes "carmen:score") → false ≡ bytes_eq k (codes "carmen:relev") → four p.text p.score p.relev o ≡ values_said (put k d found)
  others o is a b c = made _ _ _ _ _ _ _ _ (remains (codes "carmen:text") _ (ap (λ q. q.text) old) a) (remains (codes "carmen:score") _ (ap (λ q. q.score) old) b) (remains (codes "carmen:relev") _ (ap (λ q. q.relev) old) c) is

  pub note_own : (s : Shape) (o : List (List ℕ × Shape)) → Rising found → shape d ≡ s → o ≡ put_own k s p.own → true ≡ is_own_name k → false ≡ bytes_eq k (codes "carmen:text") → false ≡ bytes_eq k (codes "carmen:score")
      → false ≡ bytes_eq k (codes "carmen:relev") → four p.text p.score p.relev o ≡ values_said (put k d found)
  note_own s o rises seen one is a b c =
      others o (one ∙ ap (λ t. put_own k t p.own) (sym seen) ∙ ap (put_own k (shape d)) (ap (λ q. q.own) old) ∙ sym (own_members-put k d found (sym is) rises)) a b c

  pub note_other : false ≡ is_own_name k → false ≡ bytes_eq k (codes "carmen:text") → false ≡ bytes_eq k (codes "carmen:score") → false ≡ bytes_eq k (codes "carmen:relev") → p ≡ values_said (put k d found)
  note_other isnt a b c = others p.own (ap (λ q. q.own) old ∙ sym (own_members-put_other k d found (sym isnt))) a b c

  pub note_tiles : true ≡ bytes_eq k (codes "carmen:zxy") → p ≡ values_said (put k d found)
  note_tiles e =
      let is = same k (codes "carmen:zxy") e in
      made _ _ _ _ _ _ _ _ (stays (codes "carmen:text") _ _ (ap (λ q. q.text) old) is refl) (stays (codes "carmen:score") _ _ (ap (λ q. q.score) old) is refl) (stays (codes "carmen:relev") _ _ (ap (λ q. q.relev) old) is refl)
      (no_own (codes "carmen:zxy") is refl)

-- ---- with the tiles

abbrev pub with_tiles : SaidValues → Option (List TileView) → SaidProperties
with_tiles p o = record { values = p; tiles = o }

module _ (k : List ℕ) (d : Data) (found : Members) where
  pub properties_tiles : (i : SaidProperties) (o : Option (List TileView)) → i ≡ properties_said found → true ≡ bytes_eq k (codes "carmen:zxy") → o ≡ all_tiles (Some d) → with_tiles i.values o ≡ properties_said (put k d found)
  properties_tiles i o old e is =
      let name = same k (codes "carmen:zxy") e in
      ap (λ p. with_tiles p o) (note_tiles k d found i.values (ap (λ x. x.values) old) e) ∙ ap (with_tiles (values_said (put k d found))) (is ∙ sym (ap all_tiles (at_name k (codes "carmen:zxy") d found name)))

  pub properties_values : (i : SaidProperties) (p : SaidValues) → i ≡ properties_said found → false ≡ bytes_eq k (codes "carmen:zxy") → (i.values ≡ values_said found → p ≡ values_said (put k d found)) → with_tiles p i.tiles ≡ properties_said (put k d found)
  properties_values i p old e is =
      ap (λ x. with_tiles x i.tiles) (is (ap (λ x. x.values) old)) ∙ ap (with_tiles (values_said (put k d found))) (ap (λ x. x.tiles) old ∙ sym (ap all_tiles (at_other k (codes "carmen:zxy") d found (sym e))))

-- ---- the feature

abbrev pub with_id : Option Shape → Option SaidProperties → Said
with_id t s = record { id = t; properties = s }

-- what the value of `properties` says
abbrev inside : Option Data → Option SaidProperties
inside o = option_map properties_said (option_and_then as_object o)

made_said : (t u : Option Shape) (s v : Option SaidProperties) → t ≡ u → s ≡ v → with_id t s ≡ with_id u v
made_said t u s v a b = ap (λ x. with_id x s) a ∙ ap (with_id u) b

module _ (k : List ℕ) (d : Data) (found : Members) (p : Said) (old : p ≡ members_said found) where
  pub note_id : (s : Shape) → shape d ≡ s → true ≡ bytes_eq k (codes "id") → with_id (Some s) p.properties ≡ members_said (put k d found)
  note_id s seen e =
      let is = same k (codes "id") e in
      made_said _ _ _ _ (ap Some (sym seen) ∙ sym (ap (option_map shape) (at_name k (codes "id") d found is)))
      (ap (λ q. q.properties) old ∙ sym (ap inside (at_other k (codes "properties") d found (ap (λ x. bytes_eq x (codes "properties")) is))))

  pub note_properties : (s : Option SaidProperties) → s ≡ option_map properties_said (as_object d) → true ≡ bytes_eq k (codes "properties") → with_id p.id s ≡ members_said (put k d found)
  note_properties s seen e =
      let is = same k (codes "properties") e in
      made_said _ _ _ _ (ap (λ q. q.id) old ∙ sym (ap (option_map shape) (at_other k (codes "id") d found (ap (λ x. bytes_eq x (codes "id")) is))))
      (seen ∙ sym (ap inside (at_name k (codes "properties") d found is)))

  pub note_no_id : false ≡ bytes_eq k (codes "id") → false ≡ bytes_eq k (codes "properties") → p ≡ members_said (put k d found)
  note_no_id a b =
      made_said _ _ _ _ (ap (λ q. q.id) old ∙ sym (ap (option_map shape) (at_other k (codes "id") d found (sym a))))
      (ap (λ q. q.properties) old ∙ sym (ap inside (at_other k (codes "properties") d found (sym b))))
