-- The events that the words of a line are.
use Rattle.std.proofs.Common.{◌≡◌, ◌<◌, ◌-◌, ◌==◌, ◌&&◌, ℕ, Bool, true, false, cond, nat_le, List, [], ◌∷◌, All, Option, None, Some, refl, subst, arith}
use Rattle.std.specs.Prelude.{option_and_then}
use Rattle.std.proofs.lemmas.Bool.{and_parts, leb-true}
use Rattle.std.proofs.lemmas.List.Elements.{All-nil, All-cons}
use Rattle.geo_base.specs.declared.event.Event.{Event}
use Rattle.geo_base.specs.declared.event.Event.TheVariants.{Claim, Look, Cut, Open, Raise}
use Rattle.session_text.specs.Events.{event_by, event_of, events_of, IsOfEight}

-- a letter says an event of its worker
by_worker : (letter worker : ℕ) (event : Event) → worker < 8 → event_by letter worker ≡ Some event → IsOfEight event
by_worker letter worker event low is = by (letter == 99) (letter == 108) (letter == 120) (letter == 111) (letter == 114) is
  where
    of : (e : Event) → IsOfEight e → Some e ≡ Some event → IsOfEight event
    of e eight is = let same : e ≡ event = cc is in subst IsOfEight same eight

    by : (a b c d e : Bool) → cond a (Some (Claim worker)) (cond b (Some (Look worker)) (cond c (Some (Cut worker)) (cond d (Some (Open worker)) (cond e (Some (Raise worker)) None)))) ≡ Some event → IsOfEight event
    by true b c d e is = of (Claim worker) low is
    by false true c d e is = of (Look worker) low is
    by false false true d e is = of (Cut worker) low is
    by false false false true e is = of (Open worker) low is
    by false false false false true is = of (Raise worker) low is
    by false false false false false is = absurd (cc is)

-- a word that is an event is one of a worker below 8
one_of_eight : (word : List ℕ) (event : Event) → event_of word ≡ Some event → IsOfEight event
one_of_eight [] event is = absurd (cc is)
one_of_eight (letter ∷ []) event is = absurd (cc is)
one_of_eight (letter ∷ digit ∷ []) event is = by (nat_le 48 digit && nat_le digit 55) refl is
  where
    by : (b : Bool) → (nat_le 48 digit && nat_le digit 55) ≡ b → cond b (event_by letter (digit - 48)) None ≡ Some event → IsOfEight event
    by false inside is = absurd (cc is)
    by true inside is =
        let (low, high) = and_parts (nat_le 48 digit) (nat_le digit 55) inside in
        by_worker letter (digit - 48) event (omega (arith, leb-true 48 digit low, leb-true digit 55 high)) is
one_of_eight (letter ∷ digit ∷ more ∷ rest) event is = absurd (cc is)

-- so are the events of words
pub of_eight : (words : List (List ℕ)) (events : List Event) → events_of words ≡ Some events → All IsOfEight events
of_eight [] events is = let same : [] ≡ events = cc is in subst (All IsOfEight) same (All-nil IsOfEight)
of_eight (word ∷ words) events is = by (event_of word) (events_of words) refl refl is (λ es are. of_eight words es are)
  where
    by : (one : Option Event) (rest : Option (List Event)) → event_of word ≡ one → events_of words ≡ rest
        → option_and_then (λ e. option_and_then (λ es. Some (e ∷ es)) rest) one ≡ Some events → ((es : List Event) → events_of words ≡ Some es → All IsOfEight es) → All IsOfEight events
    by None rest of_word of_words is later = absurd (cc is)
    by (Some e) None of_word of_words is later = absurd (cc is)
    by (Some e) (Some es) of_word of_words is later =
        let same : e ∷ es ≡ events = cc is in
        subst (All IsOfEight) same (All-cons IsOfEight e es (one_of_eight word e of_word) (later es of_words))
