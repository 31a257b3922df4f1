use Rattle.std.proofs.Common.{◌≡◌, ◌∙◌, ◌++◌, ◌∷◌, ◌+◌, [], ℕ, List, true, false, drop, sym, ap, subst, arith, rules}
use Rattle.std.specs.Prelude.{string_bytes}
use Rattle.std.specs.Char.{encode_utf8}
use Rattle.std.proofs.lemmas.List.{drop_all, drop_more}
use Rattle.std.proofs.lemmas.Result.{on_ok_weaker}
use Rattle.geo_text.specs.Normal.{is_combining, is_token_char}
use Rattle.geo_text.specs.Tokens.{replaced}
use Rattle.geo_text.proofs.KeyTokens.{tokens_of_key}
use Rattle.geo_text.proofs.TokenWalks.{Along, along_mark, along_token, along_end, along_last}
use Rattle.geo_text.proofs.normalizer.key_tokens.Goals as goal
use Rattle.geo_text.proofs.normalizer.key_tokens.Goals.{then-not-is_combining+then-is_in_token+in_ok-push, then-not-is_combining+else-is_in_token+in_ok-end_token, else-not-is_combining}

pub loop-c-preserved : goal.loop-c-preserved
loop-c-preserved g c =
    let r = c.args.replace.now in
    let key : List ℕ = c.args.key.now in
    let left : List ℕ = drop (c.loop-c.c-index + 1) key in
    let before = g.S.TokenSink.has c.args.sink.now in
    let now = g.S.TokenSink.has c.loop-c.sink in
    let token : List ℕ = string_bytes c.loop-c.token in
    let here : drop c.loop-c.c-index key ≡ c.c-item.result ∷ left = search (rules, arith, drop_more) in
    let so_far : Along r before now token (c.c-item.result ∷ left) key = subst (λ (l : List ℕ). Along r before now token l key) here c.loop-c.invariant in
    elim c.if-not-is_combining.branch [
      | then-not-is_combining+then-is_in_token+in_ok-push w ↦
          let plain : is_combining c.c-item.result ≡ false = search rules in
          let inside : is_token_char c.c-item.result ≡ true = search rules in
          let grown : token ++ encode_utf8 c.c-item.result ≡ string_bytes c.if-not-is_combining.token = sym (ap string_bytes w.token-is ∙ w.in_ok-push.ensures.bytes) in
          subst (λ s. Along r before (g.S.TokenSink.has s) (string_bytes c.if-not-is_combining.token) left key) (sym w.sink-is)
          (subst (λ (t : List ℕ). Along r before now t left key) grown (along_token r before now token c.c-item.result left key so_far plain inside))
      | then-not-is_combining+else-is_in_token+in_ok-end_token w ↦
          let plain : is_combining c.c-item.result ≡ false = search rules in
          let outside : is_token_char c.c-item.result ≡ false = search rules in
          let gone : [] ≡ string_bytes c.if-not-is_combining.token = sym (ap string_bytes w.token-is ∙ w.in_ok-end_token.ensures.empty) in
          subst (λ s. Along r before (g.S.TokenSink.has s) (string_bytes c.if-not-is_combining.token) left key) (sym w.sink-is)
          (subst (λ (t : List ℕ). Along r before (g.S.TokenSink.has w.end_token.new.sink) t left key) gone (along_end r before now token c.c-item.result left key so_far (g.S.TokenSink.has w.end_token.new.sink) plain outside w.in_ok-end_token.ensures.given))
      | else-not-is_combining w ↦
          let mark : is_combining c.c-item.result ≡ true = search rules in
          subst (λ s. Along r before (g.S.TokenSink.has s) (string_bytes c.if-not-is_combining.token) left key) (sym w.sink-is)
          (subst (λ (t : List ℕ). Along r before now t left key) (ap string_bytes (sym w.token-is)) (along_mark r before now token c.c-item.result left key so_far mark))
    ]

pub returns : goal.returns
returns g c =
    let r = c.args.replace.now in
    let key : List ℕ = c.args.key.now in
    let before = g.S.TokenSink.has c.args.sink.now in
    let now = g.S.TokenSink.has c.loop-c.sink in
    let token : List ℕ = string_bytes c.loop-c.token in
    let gone : drop c.loop-c.c-index key ≡ [] = drop_all c.loop-c.c-index key (omega arith) in
    let so_far : Along r before now token [] key = subst (λ (l : List ℕ). Along r before now token l key) gone c.loop-c.invariant in
    on_ok_weaker c.end_token-2.result (λ given tokens had.
    subst (λ (l : List (List ℕ)). g.S.TokenSink.has c.end_token-2.new.sink (tokens ++ replaced r l)) (sym (tokens_of_key key))
    (along_last r before now (g.S.TokenSink.has c.end_token-2.new.sink) token key so_far given tokens had)) c.end_token-2.ensures.given
