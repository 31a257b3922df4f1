-- The feeds that the lines of a session name: each is named once, and was handed in.
use Rattle.std.proofs.Common.{◌≡◌, ◌≢◌, ◌∙◌, ◌+◌, ◌<◌, ◌==◌, ℕ, Bool, true, false, List, [], ◌∷◌, ◌++◌, length, get_or, All, AllPairs, Result, Ok, Err, refl, sym, ap, subst, append_assoc, append-nil, length-append, arith}
use Rattle.std.specs.List.{list_any}
use Rattle.std.proofs.lemmas.Bool.{eq-eqb}
use Rattle.std.proofs.lemmas.List.{get_or_append_left}
use Rattle.std.proofs.lemmas.List.Concat.{flat_map-append}
use Rattle.std.proofs.lemmas.List.Elements.{All-nil, All-push}
use Rattle.std.proofs.lemmas.List.Folds.{list_any_at}
use Rattle.std.proofs.lemmas.List.Quantifiers.{all_pairs_push}
use Rattle.session_text.specs.Session.{SessionView, start, line_at, after_item, step_of, named_by, IsLineOf}
use Rattle.session_text.specs.Reading.{lines_of, reading, reading_on, reading_from, reading_after, after_step, lines_of_rounds, feeds_named}
use Rattle.session_text.specs.declared.body.BodyLine.{BodyLine}
use Rattle.session_text.specs.declared.body.BodyLine.TheVariants.{Put, Drop, Load, Limit, Publish, Ask, Explain, Replay}
use Rattle.session_text.specs.declared.item.Item.{Item}
use Rattle.session_text.specs.declared.item.Item.TheVariants.{Skipped, Title, Langs, Layer, Body, Join, End}
use Rattle.session_text.specs.declared.session.Kind.{Kind}
use Rattle.session_text.specs.declared.why.Why.{Why}
use Rattle.session_text.proofs.Bodies.{IsUnnamed, fits_head, unnamed_before}

-- ---- lists of feeds

-- these differ, and are among so many feeds
abbrev pub AreNamed : ℕ → List ℕ → Type 0
AreNamed feeds xs = AllPairs (λ a b. a ≢ b) xs × All (λ n. n < feeds) xs

none_named : (feeds : ℕ) → AreNamed feeds []
none_named feeds = (λ i j d less within. absurd (omega (arith, within)), All-nil (λ n. n < feeds))

-- the first of them
front_named : (feeds : ℕ) (xs ys : List ℕ) → AreNamed feeds (xs ++ ys) → AreNamed feeds xs
front_named feeds xs ys are = (
  λ i j d less within same. are.0 i j d less (inside j within) (get_or_append_left xs ys d i (omega (arith, less, within)) ∙ (same ∙ sym (get_or_append_left xs ys d j within))),
  λ k d within. subst (λ n. n < feeds) (get_or_append_left xs ys d k within) (are.1 k d (inside k within)),
)
  where
    inside : (k : ℕ) → k < length xs → k < length (xs ++ ys)
    inside k within = omega (arith, within, length-append xs ys)

-- one more that isn't among them
one_named : (feeds : ℕ) (xs : List ℕ) (n : ℕ) → AreNamed feeds xs → n < feeds → list_any (λ f. f == n) xs ≡ false → AreNamed feeds (xs ++ n ∷ [])
one_named feeds xs n are lent unnamed = (all_pairs_push (λ a b. a ≢ b) xs n are.0 differs, All-push (λ m. m < feeds) xs n are.1 lent)
  where
    differs : (k : ℕ) (d : ℕ) → k < length xs → get_or xs k d ≢ n
    differs k d within same =
        let among : list_any (λ f. f == n) xs ≡ true = list_any_at (λ f. f == n) xs k d within (eq-eqb (get_or xs k d) n same) in
        let both : true ≡ false = sym among ∙ unnamed in
        absurd (cc both)

-- ---- lines and rounds

-- a line that is taken
line_named : (s : SessionView) (line : List ℕ) (said : BodyLine) → line_at s line ≡ Ok (Body said) → AreNamed s.feeds s.named → AreNamed s.feeds (s.named ++ named_by said)
line_named s line said is are = by said (fits_head s line said is) (unnamed_before s line said is)
  where
    as_before : AreNamed s.feeds (s.named ++ [])
    as_before = subst (AreNamed s.feeds) (sym (append-nil s.named)) are

    by : (said : BodyLine) → IsLineOf s.feeds s.head said → IsUnnamed s.named said → AreNamed s.feeds (s.named ++ named_by said)
    by (Put layer f) fits unnamed = as_before
    by (Drop layer id) fits unnamed = as_before
    by (Load feed layer) fits unnamed = one_named s.feeds s.named feed are fits.0 unnamed
    by (Limit n) fits unnamed = as_before
    by Publish fits unnamed = as_before
    by (Ask lane text) fits unnamed = as_before
    by (Explain text) fits unnamed = as_before
    by (Replay events text) fits unnamed = as_before

-- the feeds that a session has named are these, and then those of its open round
abbrev pub IsNaming : List ℕ → SessionView → Type 0
IsNaming xs s = (xs ++ feeds_named s.round ≡ s.named) × AreNamed s.feeds s.named

-- one more line of the round
longer : (s : SessionView) (said : BodyLine) (xs : List ℕ) → xs ++ feeds_named s.round ≡ s.named → xs ++ feeds_named (s.round ++ said ∷ []) ≡ s.named ++ named_by said
longer s said xs is =
    ap (λ l. xs ++ l) (flat_map-append named_by s.round (said ∷ []) ∙ ap (λ l. feeds_named s.round ++ l) (append-nil (named_by said)))
    ∙ (sym (append_assoc xs (feeds_named s.round) (named_by said)) ∙ ap (λ l. l ++ named_by said) is)

-- lines behind the round
behind_round : (s : SessionView) (xs : List ℕ) (lines : List BodyLine) → xs ++ feeds_named s.round ≡ s.named → s.named ++ feeds_named lines ≡ xs ++ feeds_named (s.round ++ lines)
behind_round s xs lines is =
    ap (λ l. l ++ feeds_named lines) (sym is)
    ∙ (append_assoc xs (feeds_named s.round) (feeds_named lines) ∙ ap (λ l. xs ++ l) (sym (flat_map-append named_by s.round lines)))

-- where no more rounds are closed
no_more : (s : SessionView) (xs : List ℕ) → IsNaming xs s → AreNamed s.feeds (xs ++ [])
no_more s xs is = subst (AreNamed s.feeds) (sym (append-nil xs)) (front_named s.feeds xs (feeds_named s.round) (subst (AreNamed s.feeds) (sym is.0) is.1))

-- what the rounds of a reading name, behind these
abbrev pub NamedFrom : List ℕ → SessionView → ℕ → List (List ℕ) → List ℕ
NamedFrom xs s n lines = xs ++ feeds_named (lines_of_rounds (reading_from s n lines).rounds)

-- a line that says this, and the lines behind it
step_named : (s : SessionView) (n : ℕ) (line : List ℕ) (lines : List (List ℕ)) (item : Item) (xs : List ℕ) → line_at s line ≡ Ok item → IsNaming xs s
    → ((next : SessionView) (more : List ℕ) → IsNaming more next → AreNamed next.feeds (NamedFrom more next (n + 1) lines))
    → AreNamed s.feeds (xs ++ feeds_named (lines_of_rounds (after_step (step_of s.round item) (after_item s item) (λ next. reading_from next (n + 1) lines)).rounds))
step_named s n line lines Skipped xs says is later = later s xs is
step_named s n line lines Title xs says is later = later (after_item s Title) xs is
step_named s n line lines (Langs codes) xs says is later = later (after_item s (Langs codes)) xs is
step_named s n line lines (Layer layer) xs says is later = later (after_item s (Layer layer)) xs is
step_named s n line lines (Body said) xs says is later = later (after_item s (Body said)) xs (longer s said xs is.0, line_named s line said says is.1)
step_named s n line lines Join xs says is later =
    let rest = lines_of_rounds (reading_from (after_item s Join) (n + 1) lines).rounds in
    subst (AreNamed s.feeds) (behind_round s xs rest is.0) (later (after_item s Join) s.named (append-nil s.named, is.1))
step_named s n line lines End xs says is later = subst (AreNamed s.feeds) (behind_round s xs [] is.0) (subst (AreNamed s.feeds) (sym (append-nil s.named)) is.1)

-- ---- readings

-- the feeds named by the lines from where a session stands, behind those of its earlier rounds
pub named_from : (s : SessionView) (n : ℕ) (lines : List (List ℕ)) (xs : List ℕ) → IsNaming xs s → AreNamed s.feeds (NamedFrom xs s n lines)
named_from s n [] xs is = no_more s xs is
named_from s n (line ∷ lines) xs is = by (line_at s line) refl (λ next more naming. named_from next (n + 1) lines more naming)
  where
    by : (said : Result Item Why) → line_at s line ≡ said → ((next : SessionView) (more : List ℕ) → IsNaming more next → AreNamed next.feeds (NamedFrom more next (n + 1) lines))
        → AreNamed s.feeds (xs ++ feeds_named (lines_of_rounds (reading_after s n said (λ next. reading_from next (n + 1) lines)).rounds))
    by (Ok item) says later = step_named s n line lines item xs says is later
    by (Err fault) says later = no_more s xs is

-- the same where so much of a line has come
pub named_on : (s : SessionView) (n : ℕ) (begun : List ℕ) (ended : Bool) (more : List ℕ) (xs : List ℕ) → IsNaming xs s → AreNamed s.feeds (xs ++ feeds_named (lines_of_rounds (reading_on s n begun ended more).rounds))
named_on s n begun ended more xs is = named_from s n (lines_of ended (begun ++ more)) xs is

named_whole : (feeds : ℕ) (kind : Kind) (ended : Bool) (bytes : List ℕ) → AreNamed feeds (feeds_named (lines_of_rounds (reading feeds kind ended bytes).rounds))
named_whole feeds kind ended bytes = named_on (start feeds kind) 1 [] ended bytes [] (refl, none_named feeds)

-- the rounds of a session name no feed twice
pub named_once : (feeds : ℕ) (kind : Kind) (ended : Bool) (bytes : List ℕ) → AllPairs (λ a b. a ≢ b) (feeds_named (lines_of_rounds (reading feeds kind ended bytes).rounds))
named_once feeds kind ended bytes = (named_whole feeds kind ended bytes).0

-- and none that wasn't handed in
pub named_lent : (feeds : ℕ) (kind : Kind) (ended : Bool) (bytes : List ℕ) → All (λ n. n < feeds) (feeds_named (lines_of_rounds (reading feeds kind ended bytes).rounds))
named_lent feeds kind ended bytes = (named_whole feeds kind ended bytes).1
