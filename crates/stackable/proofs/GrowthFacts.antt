-- Survivors with one more piece are the survivors with their best parents.
use Rattle.std.proofs.Common.{◌≡◌, ℕ, ◌<◌, ◌≤◌, true, false, ◌&&◌, ◌||◌, ⊎_elim, List, [], ◌∷◌, ◌++◌, length, map, filter, get_or, All, refl, sym, ◌∙◌, ap, subst, subst₂, arith, length-append, Option, Some, None, Equal}
use Rattle.std.specs.Prelude.{AllPairs, Contains, filter_map, option_map, nat_lt, nat_le, ◌==◌}
use Rattle.std.specs.List.{AllZip, cons_option}
use Rattle.std.specs.Option.{option_and_then}
use Rattle.std.specs.Ordering.{is_gt}
use Rattle.std.proofs.lemmas.Bool.{and_parts, and_from, ltb-true, eqb-true}
use Rattle.std.proofs.lemmas.List.Elements.{All-contains}
use Rattle.std.proofs.lemmas.List.{get_or_append_left}
use Rattle.std.proofs.lemmas.List.Quantifiers.{all_pairs_push}
use Rattle.geo_base.specs.declared.link.Link.{Link}
use Rattle.geo_base.specs.declared.cells.Cell.{Cell}
use Rattle.geo_base.specs.declared.job.Piece.{Piece}
use Rattle.geo_base.specs.declared.job.Job.{Job}
use Rattle.geo_base.specs.Link.{Compat, admits_below, stacks, are_disjoint}
use Rattle.geo_base.specs.Tile.{holds, ancestor_x, ancestor_y}
use Rattle.geo_base.specs.Context.{Agree}
use Rattle.geo_base.specs.Order.{context_cmp, same_target}
use Rattle.geo_base.specs.Best.{first_of}
use Rattle.geo_base.specs.Job.{job_compat, links_of, IsJobContext, IsCellOf, Fits}
use Rattle.stackable.specs.Partial.{piece_at, links_at, piece_below, IsPartial, choices, all_stack, contexts_from, first_context, survivors}
use Rattle.geo_base.proofs.Members.{member_here, member_there, member_cases, no_member, before_later, member_of_filter, member_in_filter, member_in_map, all_from_members, pairs_head}
use Rattle.geo_base.proofs.OrderLaws.{context_cmp_total}
use Rattle.geo_base.proofs.BestFacts.{first_is_member, first_not_after}
use Rattle.geo_base.proofs.ContextFacts.{context_tie}
use Rattle.geo_base.proofs.AnswerFacts.{same_target_equiv}
use Rattle.geo_base.proofs.ParentFacts.{first_is, no_parent, parent_has}
use Rattle.geo_base.proofs.PieceFacts.{IsLinkOf, link_takes}
use Rattle.geo_base.proofs.TileFacts.{held_through}
use Rattle.stackable.proofs.UnderFacts.{link_of_job, begins_push, begins_length}
use Rattle.stackable.proofs.SurvivorFacts.{links_are_alike, member_of_filter_map, survivor_is_context, stack_test, choice_from_begins, exact_from_member, chosen_from_begins}
use Rattle.geo_base.specs.Parents.{first_parent, with_parent, with_parents, FitsBelow}
use Rattle.stackable.proofs.PushedOrder.{AreBeside, pushed_not_after}

pub filter_map_twice : {X Y Z : Type 0} (f : X → Option Y) (g : Y → Option Z) (h : X → Option Z) (xs : List X) → ((x : X) → Contains xs x → h x ≡ option_and_then g (f x)) → filter_map h xs ≡ filter_map g (filter_map f xs)
filter_map_twice f g h [] all = refl
filter_map_twice {X} {Y} {Z} f g h (x ∷ xs) all =
    ap (λ o. cons_option o (filter_map h xs)) (all x (member_here x xs))
    ∙ by_option (f x) (filter_map_twice f g h xs (λ y m. all y (member_there x y xs m)))
  where
    by_option : (o : Option Y) → filter_map h xs ≡ filter_map g (filter_map f xs) → cons_option (option_and_then g o) (filter_map h xs) ≡ filter_map g (cons_option o (filter_map f xs))
    by_option None e = e
    by_option (Some y) e = ap (λ zs. cons_option (g y) zs) e

none_first : (cs : List (List Link)) → ((c : List Link) → Contains cs c → ⊥) → first_context cs ≡ None
none_first [] h = refl
none_first (c ∷ cs) h = absurd (h c (member_here c cs))

none_has : (cs : List (List Link)) → first_context cs ≡ None → (c : List Link) → Contains cs c → ⊥
none_has [] e c h = no_member c h
none_has (d ∷ cs) e c h = absurd (cc e)

is_first : (cs : List (List Link)) (d : List Link) → Contains cs d → ((c : List Link) → Contains cs c → is_gt (context_cmp d c) ≡ false) → ((c : List Link) → Contains cs c → context_cmp d c ≡ Equal → d ≡ c) → first_context cs ≡ Some d
is_first [] d h first ties = absurd (no_member d h)
is_first (x ∷ xs) d h first ties = ap (λ z. Some z) (first_is context_cmp_total same_target_equiv x xs d h first ties)

first_has : (cs : List (List Link)) (d : List Link) → first_context cs ≡ Some d → Contains cs d × ((c : List Link) → Contains cs c → is_gt (context_cmp d c) ≡ false)
first_has [] d e = absurd (cc e)
first_has (x ∷ xs) d e =
    let same : first_of context_cmp same_target x xs ≡ d = cc e in
    subst (λ z. Contains (x ∷ xs) z × ((c : List Link) → Contains (x ∷ xs) c → is_gt (context_cmp z c) ≡ false)) same
    (first_is_member context_cmp_total same_target_equiv x xs, first_not_after context_cmp_total same_target_equiv x xs)

unzip_push : (Q : ℕ → Link → Type 0) (p : List ℕ) (k : ℕ) (c : List Link) → AllZip Q (p ++ k ∷ []) c → (e : List Link) × (m : Link) × (c ≡ e ++ m ∷ []) × AllZip Q p e × Q k m
unzip_push Q [] k [] z = absurd z
unzip_push Q [] k (m ∷ []) z = ([], m, refl, tt, z.0)
unzip_push Q [] k (m ∷ x ∷ c) z = absurd z.1
unzip_push Q (j ∷ p) k [] z = absurd z
unzip_push Q (j ∷ p) k (a ∷ c) z = let r = unzip_push Q p k c z.1 in (a ∷ r.0, r.1, ap (λ xs. a ∷ xs) r.2, (z.0, r.3), r.4)

pairs_of_front : (R : Link → Link → Type 0) (xs ys : List Link) → AllPairs R (xs ++ ys) → AllPairs R xs
pairs_of_front R xs ys h = λ i j d l m. subst₂ R (get_or_append_left xs ys d i (omega (arith, l, m))) (get_or_append_left xs ys d j m) (h i j d l (omega (arith, m, length-append xs ys)))

links_stack : (compat : Compat) (p q : Piece) (a b : Link) → IsLinkOf p a → IsLinkOf q b → (nat_lt q.layer p.layer && (nat_le p.to q.from || nat_le q.to p.from) && compat p.layer q.layer) ≡ true → (nat_lt b.layer a.layer && are_disjoint a b && compat a.layer b.layer) ≡ true
links_stack compat p q a b of_p of_q h = rw (of_p.layer, of_p.from, of_p.to, of_q.layer, of_q.from, of_q.to) h

module _ (job : Job) (cells : List (List Cell)) where
  -- where a piece may stand below each piece, its links may stand below their links, as far as layers and runs go
  each_below : (p : List ℕ) (front : List Link) (k : ℕ) (l : Link) → AllZip (λ k l. Contains (links_at job cells k) l) p front → Contains (links_at job cells k) l → ((j : ℕ) → Contains p j → piece_below job j k ≡ true) → (x : Link) → Contains front x → (nat_lt l.layer x.layer && are_disjoint x l && job_compat job x.layer l.layer) ≡ true
  each_below [] [] k l z h below x m = absurd (no_member x m)
  each_below [] (a ∷ front) k l z h below x m = absurd z
  each_below (j ∷ p) [] k l z h below x m = absurd z
  each_below (j ∷ p) (a ∷ front) k l z h below x m =
      ⊎_elim
      (λ e. subst (λ y. (nat_lt l.layer y.layer && are_disjoint y l && job_compat job y.layer l.layer) ≡ true) e
      (links_stack (job_compat job) (piece_at job j) (piece_at job k) a l (link_takes (piece_at job j) (get_or cells j []) a z.0) (link_takes (piece_at job k) (get_or cells k []) l h) (below j (member_here j p))))
      (λ t. each_below p front k l z.1 h (λ i n. below i (member_there j i p n)) x t)
      (member_cases a x front m)

  -- contexts that begin with a link, and lists that are such contexts
  in_contexts : (rest : List ℕ) (a : Link) (b : List Link) → AllZip (λ k l. Contains (links_at job cells k) l) rest b → AllPairs (λ a b. stacks (job_compat job) a b ≡ true) (a ∷ b) → Contains (contexts_from job cells rest a) (a ∷ b)
  in_contexts rest a b z pairs =
      member_in_filter (all_stack job) (map (λ c. a ∷ c) (choices (map (links_at job cells) rest))) (a ∷ b)
      (member_in_map (λ c. a ∷ c) (choices (map (links_at job cells) rest)) b (choice_from_begins job cells rest b z))
      (stack_test job cells (a ∷ b) pairs)

  module _ (fits : Fits job cells) (first : ℕ) (rest : List ℕ) (k : ℕ) (partial : IsPartial job ((first ∷ rest) ++ k ∷ [])) where
    below_all : (j : ℕ) → Contains (first ∷ rest) j → piece_below job j k ≡ true
    below_all j m = before_later (λ i j. piece_below job i j ≡ true) (first ∷ rest) [] j k partial.stacked m

    of_job : (j : ℕ) (l : Link) → Contains (links_at job cells j) l → Contains (links_of job.pieces cells) l
    of_job j l h = link_of_job (λ p c. All (IsCellOf p) c) job.pieces cells j l fits.of_pieces h

    -- a link of the piece whose tile holds the target's may stand below each link of a context of the partial
    parent_stacks : (a : Link) (b : List Link) (l : Link) → AllZip (λ k l. Contains (links_at job cells k) l) (first ∷ rest) (a ∷ b) → AllPairs (λ a b. stacks (job_compat job) a b ≡ true) (a ∷ b) → Contains (links_at job cells k) l → holds l.tile a.tile ≡ true → (x : Link) → Contains (a ∷ b) x → stacks (job_compat job) x l ≡ true
    parent_stacks a b l z pairs in_k held x m =
        let loose : (nat_lt l.layer x.layer && are_disjoint x l && job_compat job x.layer l.layer) ≡ true = each_below (first ∷ rest) (a ∷ b) k l z in_k below_all x m in
        let outer = and_parts (nat_lt l.layer x.layer && are_disjoint x l) (job_compat job x.layer l.layer) loose in
        let less : l.layer < x.layer = ltb-true l.layer x.layer (and_parts (nat_lt l.layer x.layer) (are_disjoint x l) outer.0).0 in
        let in_job : Contains (links_of job.pieces cells) x = All-contains (Contains (links_of job.pieces cells)) (a ∷ b) x (chosen_from_begins job cells fits (first ∷ rest) (a ∷ b) z) m in
        let higher : l.tile.z ≤ x.tile.z = fits.zooms l x (of_job k l in_k) in_job (omega (arith, less)) in
        let held_here : holds l.tile x.tile ≡ true =
        ⊎_elim
        (λ (e : a ≡ x). subst (λ (y : Link). holds l.tile y.tile ≡ true) e held)
        (λ t. let below : stacks (job_compat job) a x ≡ true = All-contains (λ y. stacks (job_compat job) a y ≡ true) b x (pairs_head (λ a b. stacks (job_compat job) a b ≡ true) a b pairs) t in
        let holds_a : holds x.tile a.tile ≡ true = (and_parts (nat_lt x.layer a.layer && are_disjoint a x) (holds x.tile a.tile) (and_parts (admits_below a x) (job_compat job a.layer x.layer) below).0).1 in
        (held_through l.tile x.tile a.tile holds_a higher).1 held)
        (member_cases a x b m) in
        and_from (admits_below x l) (job_compat job x.layer l.layer) (and_from (nat_lt l.layer x.layer && are_disjoint x l) (holds l.tile x.tile) outer.0 held_here) outer.1

    -- what is known of a context of the partial and the piece that begins with a link
    record IsLonger (a : Link) (c : List Link) : Type 0 where
      back : List Link
      last : Link
      parts : c ≡ (a ∷ back) ++ last ∷ []
      front : Contains (contexts_from job cells rest a) (a ∷ back)
      begins : AllZip (λ k l. Contains (links_at job cells k) l) rest back
      parent : Contains (links_at job cells k) last
      held : holds last.tile a.tile ≡ true
      context : IsJobContext job cells c

    longer : (a : Link) → Contains (links_at job cells first) a → (c : List Link) → Contains (contexts_from job cells (rest ++ k ∷ []) a) c → IsLonger a c
    longer a in_first c h =
        let exact = exact_from_member job cells first (rest ++ k ∷ []) a c in_first h in
        let split = unzip_push (λ k l. Contains (links_at job cells k) l) rest k exact.0 exact.2.1 in
        let parts : a ∷ exact.0 ≡ (a ∷ split.0) ++ split.1 ∷ [] = ap (λ xs. a ∷ xs) split.2 in
        let pairs : AllPairs (λ a b. stacks (job_compat job) a b ≡ true) ((a ∷ split.0) ++ split.1 ∷ []) = subst (λ xs. AllPairs (λ a b. stacks (job_compat job) a b ≡ true) xs) parts exact.3 in
        let below : stacks (job_compat job) a split.1 ≡ true = before_later (λ a b. stacks (job_compat job) a b ≡ true) (a ∷ split.0) [] a split.1 pairs (member_here a split.0) in
        record {
          back = split.0;
          last = split.1;
          parts = exact.1 ∙ parts;
          front = in_contexts rest a split.0 split.3 (pairs_of_front (λ a b. stacks (job_compat job) a b ≡ true) (a ∷ split.0) (split.1 ∷ []) pairs);
          begins = split.3;
          parent = split.4;
          held = (and_parts (nat_lt split.1.layer a.layer && are_disjoint a split.1) (holds split.1.tile a.tile) (and_parts (admits_below a split.1) (job_compat job a.layer split.1.layer) below).0).1;
          context = subst (IsJobContext job cells) (sym exact.1) (record {
            some = omega arith;
            few = omega (arith, partial.few, begins_length job cells ((first ∷ rest) ++ k ∷ []) (a ∷ exact.0) exact.2);
            stacked = exact.3;
            chosen = chosen_from_begins job cells fits ((first ∷ rest) ++ k ∷ []) (a ∷ exact.0) exact.2;
          });
        }

    -- each survivor has room for a link of the piece, and leaves its layer, run and zoom to it
    survivor_fits : (c : List Link) → Contains (survivors job cells (first ∷ rest)) c → FitsBelow (links_at job cells k) c
    survivor_fits c h =
        let found = member_of_filter_map (λ a. first_context (contexts_from job cells rest a)) (links_at job cells first) c h in
        let exact = exact_from_member job cells first rest found.0 c found.1 (first_has (contexts_from job cells rest found.0) c found.2).0 in
        let begins : AllZip (λ k l. Contains (links_at job cells k) l) (first ∷ rest) c = subst (λ xs. AllZip (λ k l. Contains (links_at job cells k) l) (first ∷ rest) xs) (sym exact.1) exact.2 in
        let loose : (l x : Link) → Contains (links_at job cells k) l → Contains c x → (nat_lt l.layer x.layer && are_disjoint x l) ≡ true = λ l x in_k in_c.
        (and_parts (nat_lt l.layer x.layer && are_disjoint x l) (job_compat job x.layer l.layer) (each_below (first ∷ rest) c k l begins in_k below_all x in_c)).0 in
        record {
          room = omega (arith, partial.few, begins_length job cells (first ∷ rest) c begins, length-append (first ∷ rest) (k ∷ []));
          apart = loose;
          zooms = λ l x in_k in_c.
              let less : l.layer < x.layer = ltb-true l.layer x.layer (and_parts (nat_lt l.layer x.layer) (are_disjoint x l) (loose l x in_k in_c)).0 in
              fits.zooms l x (of_job k l in_k) (All-contains (Contains (links_of job.pieces cells)) c x (chosen_from_begins job cells fits (first ∷ rest) c begins) in_c) (omega (arith, less));
        }

    beside : (a l m : Link) → Contains (links_at job cells k) l → Contains (links_at job cells k) m → holds l.tile a.tile ≡ true → holds m.tile a.tile ≡ true → AreBeside l m
    beside a l m in_l in_m hold_l hold_m =
        let of_l = link_takes (piece_at job k) (get_or cells k []) l in_l in
        let of_m = link_takes (piece_at job k) (get_or cells k []) m in_m in
        let zoom : l.tile.z ≡ m.tile.z = (links_are_alike job cells fits).zooms l m (of_job k l in_l) (of_job k m in_m) (of_l.layer ∙ sym of_m.layer) in
        let tests_l = and_parts (nat_le l.tile.z a.tile.z && (ancestor_x a.tile l.tile.z == l.tile.x)) (ancestor_y a.tile l.tile.z == l.tile.y) hold_l in
        let tests_m = and_parts (nat_le m.tile.z a.tile.z && (ancestor_x a.tile m.tile.z == m.tile.x)) (ancestor_y a.tile m.tile.z == m.tile.y) hold_m in
        record {
          layer = of_l.layer ∙ sym of_m.layer;
          from = of_l.from ∙ sym of_m.from;
          to = of_l.to ∙ sym of_m.to;
          x = sym (eqb-true (ancestor_x a.tile l.tile.z) l.tile.x (and_parts (nat_le l.tile.z a.tile.z) (ancestor_x a.tile l.tile.z == l.tile.x) tests_l.0).1)
              ∙ (ap (λ (z : ℕ). ancestor_x a.tile z) zoom ∙ eqb-true (ancestor_x a.tile m.tile.z) m.tile.x (and_parts (nat_le m.tile.z a.tile.z) (ancestor_x a.tile m.tile.z == m.tile.x) tests_m.0).1);
          y = sym (eqb-true (ancestor_y a.tile l.tile.z) l.tile.y tests_l.1)
              ∙ (ap (λ (z : ℕ). ancestor_y a.tile z) zoom ∙ eqb-true (ancestor_y a.tile m.tile.z) m.tile.y tests_m.1);
        }

    -- for one target: the best context of the partial and the piece is the best of the partial with its best parent
    grows_at : (a : Link) → Contains (links_at job cells first) a → first_context (contexts_from job cells (rest ++ k ∷ []) a) ≡ option_and_then (with_parent (links_at job cells k)) (first_context (contexts_from job cells rest a))
    grows_at a in_first = by_first (first_context (contexts_from job cells rest a)) refl
      where
        by_parent : (b : List Link) → AllZip (λ k l. Contains (links_at job cells k) l) rest b → AllPairs (λ a b. stacks (job_compat job) a b ≡ true) (a ∷ b) → ((c : List Link) → Contains (contexts_from job cells rest a) c → is_gt (context_cmp (a ∷ b) c) ≡ false) → (o : Option Link) → first_parent (filter (λ l. holds l.tile a.tile) (links_at job cells k)) ≡ o → first_context (contexts_from job cells (rest ++ k ∷ []) a) ≡ option_map (λ l. (a ∷ b) ++ l ∷ []) o
        by_parent b z pairs best None e = none_first (contexts_from job cells (rest ++ k ∷ []) a) (λ c h.
            let w = longer a in_first c h in
            no_parent (filter (λ l. holds l.tile a.tile) (links_at job cells k)) e w.last (member_in_filter (λ l. holds l.tile a.tile) (links_at job cells k) w.last w.parent w.held))
        by_parent b z pairs best (Some l) e =
            let parent = parent_has (filter (λ l. holds l.tile a.tile) (links_at job cells k)) l e in
            let kept = member_of_filter (λ (l : Link). holds l.tile a.tile) (links_at job cells k) l parent.0 in
            let stacked : AllPairs (λ a b. stacks (job_compat job) a b ≡ true) ((a ∷ b) ++ l ∷ []) = all_pairs_push (λ a b. stacks (job_compat job) a b ≡ true) (a ∷ b) l pairs
            (λ i d h. all_from_members (λ x. stacks (job_compat job) x l ≡ true) (a ∷ b) (parent_stacks a b l (in_first, z) pairs kept.0 kept.1) i d h) in
            let inside : Contains (contexts_from job cells (rest ++ k ∷ []) a) ((a ∷ b) ++ l ∷ []) = in_contexts (rest ++ k ∷ []) a (b ++ l ∷ []) (begins_push job cells rest b k l z kept.0) stacked in
            let context = (longer a in_first ((a ∷ b) ++ l ∷ []) inside).context in
            is_first (contexts_from job cells (rest ++ k ∷ []) a) ((a ∷ b) ++ l ∷ []) inside
            (λ c h. let w = longer a in_first c h in
            let lengths : length b ≡ length w.back = sym (begins_length job cells rest b z) ∙ begins_length job cells rest w.back w.begins in
            subst (λ xs. is_gt (context_cmp ((a ∷ b) ++ l ∷ []) xs) ≡ false) (sym w.parts)
            (pushed_not_after a b w.back l w.last lengths (beside a l w.last kept.0 w.parent kept.1 w.held) (best (a ∷ w.back) w.front)
            (parent.1 w.last (member_in_filter (λ l. holds l.tile a.tile) (links_at job cells k) w.last w.parent w.held))))
            (λ c h tie. context_tie (links_of job.pieces cells) (links_are_alike job cells fits) ((a ∷ b) ++ l ∷ []) c context.chosen (longer a in_first c h).context.chosen tie)

        by_first : (o : Option (List Link)) → first_context (contexts_from job cells rest a) ≡ o → first_context (contexts_from job cells (rest ++ k ∷ []) a) ≡ option_and_then (with_parent (links_at job cells k)) o
        by_first None e = none_first (contexts_from job cells (rest ++ k ∷ []) a) (λ c h. none_has (contexts_from job cells rest a) e (a ∷ (longer a in_first c h).back) (longer a in_first c h).front)
        by_first (Some d) e =
            let has = first_has (contexts_from job cells rest a) d e in
            let exact = exact_from_member job cells first rest a d in_first has.0 in
            let best : (c : List Link) → Contains (contexts_from job cells rest a) c → is_gt (context_cmp (a ∷ exact.0) c) ≡ false = λ c h. subst (λ xs. is_gt (context_cmp xs c) ≡ false) exact.1 (has.1 c h) in
            subst (λ xs. first_context (contexts_from job cells (rest ++ k ∷ []) a) ≡ with_parent (links_at job cells k) xs) (sym exact.1)
            (by_parent exact.0 exact.2.1 exact.3 best (first_parent (filter (λ l. holds l.tile a.tile) (links_at job cells k))) refl)

  -- with one more piece, each survivor that has a parent goes on with the best one
  pub survivors_more : Fits job cells → (p : List ℕ) (k : ℕ) → 0 < length p → IsPartial job (p ++ k ∷ []) → survivors job cells (p ++ k ∷ []) ≡ with_parents (links_at job cells k) (survivors job cells p)
  survivors_more fits [] k some partial = absurd (omega (arith, some))
  survivors_more fits (first ∷ rest) k some partial =
      filter_map_twice (λ a. first_context (contexts_from job cells rest a)) (with_parent (links_at job cells k)) (λ a. first_context (contexts_from job cells (rest ++ k ∷ []) a)) (links_at job cells first)
      (grows_at fits first rest k partial)

  -- what is asked of survivors and of the links of one piece more
  pub survivors_fit : Fits job cells → (p : List ℕ) (k : ℕ) → 0 < length p → IsPartial job (p ++ k ∷ []) → All (FitsBelow (links_at job cells k)) (survivors job cells p)
  survivors_fit fits [] k some partial = absurd (omega (arith, some))
  survivors_fit fits (first ∷ rest) k some partial = all_from_members (FitsBelow (links_at job cells k)) (survivors job cells (first ∷ rest)) (survivor_fits fits first rest k partial)

  pub links_agree : Fits job cells → (k : ℕ) → Agree (links_at job cells k)
  links_agree fits k =
      let all = links_are_alike job cells fits in
      let of_job : (l : Link) → Contains (links_at job cells k) l → Contains (links_of job.pieces cells) l = λ l h. link_of_job (λ p c. All (IsCellOf p) c) job.pieces cells k l fits.of_pieces h in
      record { zooms = λ a b p q e. all.zooms a b (of_job a p) (of_job b q) e; scores = λ a b p q e f. all.scores a b (of_job a p) (of_job b q) e f }

  -- survivors are contexts of the job
  pub survivors_are_contexts : Fits job cells → (p : List ℕ) → length p ≤ 16 → All (IsJobContext job cells) (survivors job cells p)
  survivors_are_contexts fits [] few = λ k d l. absurd (omega (arith, l))
  survivors_are_contexts fits (first ∷ rest) few = all_from_members (IsJobContext job cells) (survivors job cells (first ∷ rest)) (λ c h. survivor_is_context job cells fits first rest c few h)

  -- the survivors of one piece are its links
  pub survivors_one : (k : ℕ) → survivors job cells (k ∷ []) ≡ map (λ l. l ∷ []) (links_at job cells k)
  survivors_one k = by_links (links_at job cells k)
    where
      by_links : (ls : List Link) → filter_map (λ a. first_context (contexts_from job cells [] a)) ls ≡ map (λ l. l ∷ []) ls
      by_links [] = refl
      by_links (l ∷ ls) = ap (λ rest. (l ∷ []) ∷ rest) (by_links ls)
