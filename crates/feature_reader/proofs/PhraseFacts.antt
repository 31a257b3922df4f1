-- What the type of a feature keeps of its phrases, and of its other parts.
use Rattle.std.proofs.Common.{◌≡◌, ◌≢◌, ◌∙◌, ◌<◌, ◌≤◌, ◌==◌, ℕ, Bool, true, false, cond, not, nat_le, min, List, [], ◌∷◌, ◌++◌, length, map, filter, refl, sym, ap, subst, arith, Option, None, Some, unwrap_or, inr, inl, All}
use Rattle.std.specs.Prelude.{bytes_eq, AllPairs, IfSome, flat_map}
use Rattle.std.specs.List.{list_all}
use Rattle.std.proofs.lemmas.Bool.{and_parts, leb-true, not-true}
use Rattle.std.proofs.lemmas.Bool.Decides.{nat_tests}
use Rattle.std.proofs.lemmas.List.Elements.{All-append, All-nil, All-cons, All-head, All-tail, All-filter, All-map, All-weaker, filter_passes}
use Rattle.std.proofs.lemmas.List.Kept.{AllPairs-cons, AllPairs-filter}
use Rattle.std.proofs.lemmas.Map.Entries.{All-lookup}
use Rattle.geo_base.specs.TileView.{TileView, IsTile}
use Rattle.geo_text.specs.Tokens.{Replacements, AreWords, tokens_of, replacement, replaced, joined, are_some_tokens}
use Rattle.geo_text.specs.Words.{IsWord}
use Rattle.geo_text.specs.Parts.{pieces, ranked}
use Rattle.geo_text.proofs.Words.{tokens_are_words}
use Rattle.feature_reader.specs.FeatureView.{IsFeature, IsPhraseText, IsRelevance}
use Rattle.feature_reader.specs.Languages.{bits_of, other_languages}
use Rattle.feature_reader.specs.Tiles.{rising}
use Rattle.feature_reader.specs.Feature.{phrases_of, all_phrases, same_phrase, distinct}
use Rattle.feature_reader.specs.declared.phrase.Phrase.{Phrase}
use Rattle.feature_reader.proofs.CollectedFacts.{same_itself}
use Rattle.feature_reader.proofs.Rising.{rising-pairs, rising-length, rising_all, rising-zoom}

-- ---- replaced tokens are words

word_or : (o : Option (List ℕ)) (token : List ℕ) → IfSome o IsWord → IsWord token → IsWord (unwrap_or o token)
word_or None token h k = k
word_or (Some text) token h k = h

replaced_words : (r : Replacements) → AreWords r → (tokens : List (List ℕ)) → All IsWord tokens → All IsWord (replaced r tokens)
replaced_words r words tokens all =
    All-map IsWord (λ token. unwrap_or (replacement r token) token) tokens (All-weaker IsWord (λ token. IsWord (unwrap_or (replacement r token) token)) (λ token is. word_or (replacement r token) token (All-lookup IsWord (bytes_eq token) r (All-weaker (λ e. IsWord e.0 × IsWord e.1) (λ e. IsWord e.1) (λ e is. is.1) r words)) is) tokens all)

-- ---- a part is a text of a phrase

-- 1 to 20 words
abbrev AreSomeWords : List (List ℕ) → Type 0
AreSomeWords tokens = (0 < length tokens) × (length tokens ≤ 20) × All IsWord tokens

some_words : (tokens : List (List ℕ)) → All IsWord tokens → are_some_tokens tokens ≡ true → AreSomeWords tokens
some_words tokens words some =
    let both = and_parts _ _ some in
    (leb-true 1 _ both.0, leb-true _ 20 both.1, words)

kept_words : (toks : List (List (List ℕ))) → All (λ tokens. All IsWord tokens) toks → All AreSomeWords (filter are_some_tokens toks)
kept_words [] all = All-nil AreSomeWords
kept_words (tokens ∷ toks) all =
    let rest = kept_words toks (All-tail (λ tokens. All IsWord tokens) tokens toks all) in
    elim (are_some_tokens tokens) as (λ b. are_some_tokens tokens ≡ b → All AreSomeWords (cond b (tokens ∷ filter are_some_tokens toks) (filter are_some_tokens toks))) [
      | true ↦ λ e. All-cons AreSomeWords tokens _ (some_words tokens (All-head (λ tokens. All IsWord tokens) tokens toks all) e) rest
      | false ↦ λ e. rest
    ] refl

-- the text and the relevance are those of a phrase
abbrev pub IsPhrase : Phrase → Type 0
IsPhrase p = IsPhraseText p.text × IsRelevance p.relev

module _ (set : ℕ) where
  -- a part with its relevance as a phrase
  abbrev part_phrase : List (List ℕ) × ℕ → Phrase
  part_phrase part = record { text = joined part.0; set = record { bits = set }; relev = part.1 }

  part_is_phrase : (tokens : List (List ℕ)) (relev : ℕ) → AreSomeWords tokens → IsRelevance relev → IsPhrase (part_phrase (tokens, relev))
  part_is_phrase tokens relev some is = ((tokens, refl, some.0, some.1, some.2), is)

  ranked_phrases : (cap : ℕ) → IsRelevance (min cap 100) → IsRelevance (min cap 80) → (toks : List (List (List ℕ))) → All AreSomeWords toks → All IsPhrase (map part_phrase (ranked cap toks))
  ranked_phrases cap first later [] all = All-nil IsPhrase
  ranked_phrases cap first later (tokens ∷ more) all =
      All-cons IsPhrase (part_phrase (tokens, min cap 100)) (map part_phrase (map (λ tokens. (tokens, min cap 80)) more)) (part_is_phrase tokens (min cap 100) (All-head AreSomeWords tokens more all) first)
      (All-map IsPhrase part_phrase (map (λ tokens. (tokens, min cap 80)) more) (All-map (λ part. IsPhrase (part_phrase part)) (λ tokens. (tokens, min cap 80)) more (All-weaker AreSomeWords (λ tokens. IsPhrase (part_phrase (tokens, min cap 80))) (λ tokens some. part_is_phrase tokens (min cap 80) some later) more (All-tail AreSomeWords tokens more all))))

-- a relevance that is at most a cap is one
capped : (cap relev : ℕ) → IsRelevance cap → IsRelevance relev → IsRelevance (min cap relev)
capped cap relev is known = by (nat_le cap relev) refl
  where
    by : (b : Bool) → nat_le cap relev ≡ b → IsRelevance (min cap relev)
    by true e = let low = leb-true cap relev e in let same : cap ≡ min cap relev = omega (arith, low) in subst IsRelevance same is
    by false e = let high : relev ≤ cap = grind (arith, nat_tests) in let same : relev ≡ min cap relev = omega (arith, high) in subst IsRelevance same known

-- ---- distinct phrases

distinct_all : (P : Phrase → Type 0) (ps : List Phrase) → All P ps → All P (distinct ps)
distinct_all P [] all = all
distinct_all P (p ∷ ps) all = All-cons P p (filter (λ q. not (same_phrase p q)) (distinct ps)) (All-head P p ps all) (All-filter (λ q. not (same_phrase p q)) P (distinct ps) (distinct_all P ps (All-tail P p ps all)))

other : (p q : Phrase) → not (same_phrase p q) ≡ true → p ≢ q
other p q differs is = let bad : false ≡ true = sym (not-true _ differs) ∙ (ap (same_phrase p) (sym is) ∙ same_itself p) in cc

distinct_pairs : (ps : List Phrase) → AllPairs (λ p q. p ≢ q) (distinct ps)
distinct_pairs [] = λ i j d l m. absurd (omega (arith, m))
distinct_pairs (p ∷ ps) =
    AllPairs-cons (λ p q. p ≢ q) p (filter (λ q. not (same_phrase p q)) (distinct ps))
    (All-weaker (λ q. not (same_phrase p q) ≡ true) (λ q. p ≢ q) (other p) (filter (λ q. not (same_phrase p q)) (distinct ps)) (filter_passes (λ q. not (same_phrase p q)) (distinct ps)))
    (AllPairs-filter (λ p q. p ≢ q) (λ q. not (same_phrase p q)) (distinct ps) (distinct_pairs ps))

-- ---- the phrases of a feature

text_phrases : (r : Replacements) (cap : ℕ) (text : List ℕ) (set : ℕ) → AreWords r → IsRelevance cap → All IsPhrase (phrases_of r cap text set)
text_phrases r cap text set words is =
    ranked_phrases set cap (capped cap 100 is (inr (inr (inr refl)))) (capped cap 80 is (inr (inr (inl refl)))) _ (kept_words (map (λ piece. replaced r (tokens_of piece)) (pieces text)) (All-map (λ tokens. All IsWord tokens) (λ piece. replaced r (tokens_of piece)) (pieces text) (λ i d within. replaced_words r words (tokens_of _) (tokens_are_words _))))

own_phrases : (r : Replacements) (langs : List (List ℕ)) (cap : ℕ) (own : List (List ℕ × List ℕ)) → AreWords r → IsRelevance cap → All IsPhrase (flat_map (λ t. phrases_of r cap t.1 (bits_of langs t.0)) own)
own_phrases r langs cap [] words is = All-nil IsPhrase
own_phrases r langs cap (t ∷ own) words is =
    All-append IsPhrase (phrases_of r cap t.1 (bits_of langs t.0)) (flat_map (λ t. phrases_of r cap t.1 (bits_of langs t.0)) own) (text_phrases r cap t.1 (bits_of langs t.0) words is) (own_phrases r langs cap own words is)

phrases_are : (r : Replacements) (langs : List (List ℕ)) (cap : ℕ) (text : List ℕ) (own : List (List ℕ × List ℕ)) → AreWords r → IsRelevance cap → All IsPhrase (all_phrases r langs cap text own)
phrases_are r langs cap text own words is =
    let others : ℕ = other_languages langs (map (λ t. t.0) own) in
    distinct_all IsPhrase (phrases_of r cap text others ++ flat_map (λ t. phrases_of r cap t.1 (bits_of langs t.0)) own) (All-append IsPhrase (phrases_of r cap text others) (flat_map (λ t. phrases_of r cap t.1 (bits_of langs t.0)) own) (text_phrases r cap text others words is) (own_phrases r langs cap own words is))

-- what the type of a feature keeps of its phrases
pub record AreFeaturePhrases (ps : List Phrase) : Type 0 where
  pub texts : All (λ p. IsPhraseText p.text) ps
  pub relevances : All (λ p. IsRelevance p.relev) ps
  pub distinct : AllPairs (λ p q. p ≢ q) ps

pub feature_phrases : (r : Replacements) (langs : List (List ℕ)) (cap : ℕ) (text : List ℕ) (own : List (List ℕ × List ℕ)) → AreWords r → IsRelevance cap → AreFeaturePhrases (all_phrases r langs cap text own)
feature_phrases r langs cap text own words is =
    let phrases = phrases_are r langs cap text own words is in
    record {
      texts = All-weaker IsPhrase (λ p. IsPhraseText p.text) (λ p is. is.0) (all_phrases r langs cap text own) phrases;
      relevances = All-weaker IsPhrase (λ p. IsRelevance p.relev) (λ p is. is.1) (all_phrases r langs cap text own) phrases;
      distinct = distinct_pairs (phrases_of r cap text (other_languages langs (map (λ t. t.0) own)) ++ flat_map (λ t. phrases_of r cap t.1 (bits_of langs t.0)) own);
    }

-- the parts make a feature
pub is_feature : (id score zoom : ℕ) (ps : List Phrase) (ts : List TileView) → id < 67108864 → score < 16 → AreFeaturePhrases ps → list_all (λ t. t.z == zoom) ts ≡ true → All IsTile ts → 0 < length ts → length ts ≤ 4096
    → IsFeature (record { id = id; score = score; phrases = ps; tiles = rising ts })
is_feature id score zoom ps ts low level phrases all tiles some few =
    let size = rising-length ts in
    record {
      id = low;
      score = level;
      texts = phrases.texts;
      relevances = phrases.relevances;
      distinct = phrases.distinct;
      some = omega (arith, size, some);
      few = omega (arith, size, few);
      tiles = rising_all IsTile ts tiles;
      rising = rising-pairs ts;
      one_zoom = rising-zoom zoom ts all;
    }
