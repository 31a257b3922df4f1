-- Along a replay: the state of its workers is that of the events so far.
use Rattle.std.proofs.Common.{◌≡◌, ℕ, zero, suc, ◌+◌, ◌<◌, ◌≤◌, Bool, true, false, cond, not, ⊎_elim, List, [], ◌∷◌, ◌++◌, length, map, get_or, drop, refl, sym, ◌∙◌, ap, subst, arith, Some, None, slice_get, nat_lt, nat_eq}
use Rattle.std.specs.Prelude.{find, Err, ◌||◌, ◌&&◌}
use Rattle.std.specs.List.{list_any}
use Rattle.std.proofs.lemmas.Bool.{cases_Bool, cases_lt, cond-true, cond-false, lt-ltb}
use Rattle.std.proofs.lemmas.List.{drop_more, drop_all, length-map}
use Rattle.geo_base.specs.declared.link.Link.{Link}
use Rattle.geo_base.specs.declared.cells.Cell.{Cell}
use Rattle.geo_base.specs.declared.job.Job.{Job}
use Rattle.geo_base.specs.declared.event.Event.{Event}
use Rattle.geo_base.specs.Job.{Fits}
use Rattle.stackable.specs.Partial.{roots, root_cmp, piece_numbers, numbers_below}
use Rattle.geo_base.specs.Best.{best_of}
use Rattle.search_core.specs.Machine.{WorkerState, State, first_state, worker_of, is_allowed, happens, run, is_of_root, is_done, first_left, answer_of, verdict_by, Found, Illegal, Unfinished, replayed, replayed_by}
use Rattle.search_core.specs.Covers.{IsGood}
use Rattle.stackable.proofs.TreeFacts.{below_number}
use Rattle.search_core.proofs.SearchFacts.{good_kept}
use Rattle.search_core.specs.Hand.{Hand, as_worker}
use Rattle.search_core.specs.Shown.{unclaimed, shown}
use Rattle.search_core.specs.Staged.{staged}
use Rattle.search_core.specs.Merging.{merged_tops}
use Rattle.top_list.specs.Merged.{merged}
use Rattle.search_core.proofs.ClaimFacts.{workers_stay}
use Rattle.search_core.proofs.OneRunFacts.{first_is_good, none_passes, best_few}
use Rattle.search_core.proofs.ShownFacts.{allowed_shown, happens_shown, done_shown}
use Rattle.search_core.proofs.MergedFacts.{into_new}

-- a replay has taken the first i events, and its workers are those of a good state
pub record IsPlaying (job : Job) (cells : List (List Cell)) (events : List Event) (i next floor : ℕ) (hands : List Hand) : Type 0 where
  pub state : State
  pub is_shown : shown state ≡ staged next floor hands
  pub rest : run job cells i (drop i events) state ≡ run job cells 0 events first_state
  pub good : IsGood job cells state
  pub eight : length state.workers ≡ 8

module _ (job : Job) (cells : List (List Cell)) (fits : Fits job cells) (events : List Event) where
  pub playing_starts : (next floor : ℕ) (hands : List Hand) → staged next floor hands ≡ first_state → IsPlaying job cells events 0 next floor hands
  playing_starts next floor hands e = record { state = first_state; is_shown = sym e; rest = refl; good = first_is_good job cells fits; eight = refl }

  step_is : (i next floor : ℕ) (hands : List Hand) (e : Event) → (p : IsPlaying job cells events i next floor hands) → i < length events → e ≡ get_or events i e
      → run job cells i (drop i events) p.state ≡ cond (is_allowed job p.state e) (run job cells (i + 1) (drop (i + 1) events) (happens job cells p.state e)) (Err i)
  step_is i next floor hands e p l at = ap (λ es. run job cells i es p.state) (drop_more events i e l ∙ ap (λ (x : Event). x ∷ drop (i + 1) events) (sym at))

  tested : (i next floor : ℕ) (hands : List Hand) (e : Event) → (p : IsPlaying job cells events i next floor hands) → is_allowed job (staged next floor hands) e ≡ is_allowed job p.state e
  tested i next floor hands e p = ap (λ s. is_allowed job s e) (sym p.is_shown) ∙ allowed_shown job cells p.state e

  -- an event that may happen
  pub playing_on : (i n f m g : ℕ) (hands after_it : List Hand) (e : Event) (may : Bool) → IsPlaying job cells events i n f hands → i < length events → e ≡ get_or events i e → worker_of e < 8
      → may ≡ is_allowed job (staged n f hands) e → may ≡ true → staged m g after_it ≡ cond may (shown (happens job cells (staged n f hands) e)) (staged n f hands)
      → IsPlaying job cells events (i + 1) m g after_it
  playing_on i n f m g hands after_it e may p l at own test is then =
      let allowed : is_allowed job p.state e ≡ true = sym (tested i n f hands e p) ∙ (sym test ∙ is) in
      record {
        state = happens job cells p.state e;
        is_shown = happens_shown job cells p.state e ∙ (ap (λ s. shown (happens job cells s e)) p.is_shown ∙ sym (then ∙ ap (λ b. cond b (shown (happens job cells (staged n f hands) e)) (staged n f hands)) is));
        rest = sym (step_is i n f hands e p l at ∙ cond-true (is_allowed job p.state e) (run job cells (i + 1) (drop (i + 1) events) (happens job cells p.state e)) (Err i) allowed) ∙ p.rest;
        good = good_kept job cells fits p.state e (omega (arith, own, p.eight)) allowed p.good;
        eight = workers_stay job cells p.state e ∙ p.eight;
      }

  -- one that may not
  pub playing_stops : (i n f : ℕ) (hands : List Hand) (e : Event) (may : Bool) → IsPlaying job cells events i n f hands → i < length events → e ≡ get_or events i e
      → may ≡ is_allowed job (staged n f hands) e → may ≡ false → replayed job cells events ≡ Illegal i
  playing_stops i n f hands e may p l at test is =
      let refused : is_allowed job p.state e ≡ false = sym (tested i n f hands e p) ∙ (sym test ∙ is) in
      ap (replayed_by job) (sym p.rest ∙ (step_is i n f hands e p l at ∙ cond-false (is_allowed job p.state e) (run job cells (i + 1) (drop (i + 1) events) (happens job cells p.state e)) (Err i) refused))

  ended : (i n f : ℕ) (hands : List Hand) → (p : IsPlaying job cells events i n f hands) → length events ≤ i → replayed job cells events ≡ verdict_by (first_left job p.state) (answer_of p.state)
  ended i n f hands p past = ap (replayed_by job) (sym p.rest ∙ ap (λ es. run job cells i es p.state) (drop_all i events past))

  done_is : (i n f : ℕ) (hands : List Hand) → (p : IsPlaying job cells events i n f hands) → (k : ℕ) → is_done job p.state k ≡ is_done job (staged n f hands) k
  done_is i n f hands p k = sym (done_shown job cells p.state k) ∙ ap (λ s. is_done job s k) p.is_shown

  found_first : (p : ℕ → Bool) (n k : ℕ) → k < n → ((j : ℕ) → j < k → p j ≡ false) → p k ≡ true → find p (numbers_below n) ≡ Some k
  found_first p zero k l before here = absurd (omega (arith, l))
  found_first p (suc n) k l before here =
      ⊎_elim
      (λ less. find_front (numbers_below n) (n ∷ []) k (found_first p n k less before here))
      (λ last. let same : k ≡ n = omega (arith, last, l) in
      find_back (numbers_below n) (n ∷ []) (none_passes p (numbers_below n) (λ j h. let small : j < n = below_number n j h in before j (omega (arith, small, same))))
      ∙ (ap (λ b. cond b (Some n) None) (subst (λ z. p z ≡ true) same here) ∙ ap (λ z. Some z) (sym same)))
      (cases_lt k n)
    where
      find_front : (xs ys : List ℕ) (x : ℕ) → find p xs ≡ Some x → find p (xs ++ ys) ≡ Some x
      find_front [] ys x e = absurd (cc e)
      find_front (y ∷ xs) ys x e =
          ⊎_elim
          (λ t. ap (λ b. cond b (Some y) (find p (xs ++ ys))) t ∙ (sym (ap (λ b. cond b (Some y) (find p xs)) t) ∙ e))
          (λ t. ap (λ b. cond b (Some y) (find p (xs ++ ys))) t ∙ find_front xs ys x (sym (ap (λ b. cond b (Some y) (find p xs)) t) ∙ e))
          (cases_Bool (p y))

      find_back : (xs ys : List ℕ) → find p xs ≡ None → find p (xs ++ ys) ≡ find p ys
      find_back [] ys e = refl
      find_back (y ∷ xs) ys e =
          ⊎_elim
          (λ t. let bad : Some y ≡ None = sym (ap (λ b. cond b (Some y) (find p xs)) t) ∙ e in absurd (cc bad))
          (λ t. ap (λ b. cond b (Some y) (find p (xs ++ ys))) t ∙ find_back xs ys (sym (ap (λ b. cond b (Some y) (find p xs)) t) ∙ e))
          (cases_Bool (p y))

  -- the first root that isn't done
  pub playing_unfinished : (i n f : ℕ) (hands : List Hand) (k : ℕ) → IsPlaying job cells events i n f hands → length events ≤ i → k < length (roots job)
      → ((j : ℕ) → j < k → is_done job (staged n f hands) j ≡ true) → is_done job (staged n f hands) k ≡ false → replayed job cells events ≡ Unfinished k
  playing_unfinished i n f hands k p past l before here =
      ended i n f hands p past
      ∙ ap (λ o. verdict_by o (answer_of p.state))
      (found_first (λ j. not (is_done job p.state j)) (length (roots job)) k l (λ j h. ap not (done_is i n f hands p j ∙ before j h)) (ap not (done_is i n f hands p k ∙ here)))

  tops_again : (top : List (List Link)) (ws : List WorkerState) → merged_tops top (map unclaimed ws) ≡ merged_tops top ws
  tops_again top [] = refl
  tops_again top (w ∷ ws) = tops_again (merged top w.top) ws

  -- every root is done
  pub playing_found : (i n f : ℕ) (hands : List Hand) (top : List (List Link)) → IsPlaying job cells events i n f hands → length events ≤ i
      → ((j : ℕ) → j < length (roots job) → is_done job (staged n f hands) j ≡ true) → top ≡ merged_tops [] (staged n f hands).workers → replayed job cells events ≡ Found top
  playing_found i n f hands top p past all is =
      ended i n f hands p past
      ∙ (ap (λ o. verdict_by o (answer_of p.state)) (none_passes (λ j. not (is_done job p.state j)) (numbers_below (length (roots job))) (λ j h. ap not (done_is i n f hands p j ∙ all j (below_number (length (roots job)) j h))))
      ∙ ap (λ xs. Found xs) (sym (is ∙ (ap (λ (s : State). merged_tops [] s.workers) (sym p.is_shown) ∙ (tops_again [] p.state.workers ∙ into_new p.state.workers)))))

any_in_hand : (g : List (List ℕ) → Bool) (hands : List Hand) → list_any (λ w. g w.stack) (map (as_worker []) hands) ≡ list_any (λ h. g h.stack) hands
any_in_hand g [] = refl
any_in_hand g (h ∷ hands) = ap (λ b. g h.stack || b) (any_in_hand g hands)

pub done_shows : (job : Job) (n f : ℕ) (hands : List Hand) (k : ℕ) (r : List ℕ) (held : Bool) → k < n → slice_get (roots job) k ≡ Some r
    → held ≡ list_any (λ h. list_any (is_of_root (Some r)) h.stack) hands → not held ≡ is_done job (staged n f hands) k
done_shows job n f hands k r held l root is =
    let below : nat_lt k n ≡ true = lt-ltb k n l in
    let same : held ≡ list_any (λ w. list_any (is_of_root (slice_get (roots job) k)) w.stack) (map (as_worker []) hands) =
    is ∙ (sym (any_in_hand (list_any (is_of_root (Some r))) hands) ∙ ap (λ o. list_any (λ w. list_any (is_of_root o) w.stack) (map (as_worker []) hands)) (sym root)) in
    ap not same ∙ ap (λ b. b && not (list_any (λ w. list_any (is_of_root (slice_get (roots job) k)) w.stack) (map (as_worker []) hands))) (sym below)

pub roots_few : (job : Job) → length (roots job) ≤ length job.pieces
roots_few job = omega (arith, length-map (best_of (root_cmp job) nat_eq (length job.pieces) (piece_numbers job)) (λ (k : ℕ). k ∷ []), best_few (root_cmp job) nat_eq (length job.pieces) (piece_numbers job))
