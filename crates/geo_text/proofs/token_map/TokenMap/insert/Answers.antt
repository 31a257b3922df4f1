use Rattle.std.proofs.Common.{◌≡◌, ◌∙◌, sym, ap, subst, bytes_eq, cond, Some, List, ℕ}
use Rattle.std.specs.Prelude.{string_bytes}
use Rattle.std.specs.BTreeMap.{insert_entry}
use Rattle.std.specs.Cmp.Lexicographic.{slice_cmp}
use Rattle.std.specs.Ordering.{nat_cmp}
use Rattle.geo_text.specs.Tokens.{AreWords, Replacements, replacement}
use Rattle.geo_text.specs.Words.{IsWord}
use Rattle.geo_text.proofs.TokenMaps.{texts_of, put_is, entries_put, are_words}
use Rattle.geo_text.proofs.token_map.TokenMap.insert.Goals as goal

pub invariant_of-self-2 : goal.invariant_of-self-2
invariant_of-self-2 c =
    let words = are_words c.into_string.result c.into_string-2.result c.self.inside.words.entries c.self.invariant (subst IsWord (sym c.into_string.ensures) c.requires.token) (subst IsWord (sym c.into_string-2.ensures) c.requires.text) in
    subst (λ es. AreWords (texts_of es)) (sym c.in_ok-insert.ensures.entries) words

-- the same texts and the same replacements before
same : (from from' to to' q : List ℕ) (old old' : Replacements) → from' ≡ from → to' ≡ to → old' ≡ old → cond (bytes_eq from' q) (Some to') (replacement old' q) ≡ cond (bytes_eq from q) (Some to) (replacement old q)
same from from' to to' q old old' f t o = cc

-- the same texts and the same pairs before
placed : (from from' to to' : List ℕ) (old old' : Replacements) → from' ≡ from → to' ≡ to → old' ≡ old → insert_entry (slice_cmp nat_cmp) old' from' to' ≡ insert_entry (slice_cmp nat_cmp) old from to
placed from from' to to' old old' f t o = cc

pub returns-clause-ok : goal.returns-clause-ok
returns-clause-ok c = λ q.
    put_is (string_bytes c.into_string.result) c.into_string-2.result c.self.inside.words c.insert.new.self c.in_ok-insert.ensures.updates q
    ∙ same c.args.from _ c.args.to _ q c.args.self.now _ c.into_string.ensures c.into_string-2.ensures c.self.view_is

pub returns-clause-list : goal.returns-clause-list
returns-clause-list c =
    ap texts_of c.in_ok-insert.ensures.entries
    ∙ (entries_put c.into_string.result c.into_string-2.result c.self.inside.words.entries
    ∙ placed c.args.from _ c.args.to _ c.args.self.now _ c.into_string.ensures c.into_string-2.ensures c.self.view_is)
