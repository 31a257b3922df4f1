-- What a query within the limit is answered.
use Rattle.std.proofs.Common.{◌≡◌, ◌∙◌, ◌<◌, ◌≤◌, ℕ, List, cond, length, All, Ok, Err, sym, ap, arith}
use Rattle.std.specs.Prelude.{Contains}
use Rattle.std.proofs.lemmas.Bool.{le-ltb}
use Rattle.std.proofs.lemmas.List.Elements.{All-weaker, All-contains}
use Rattle.geo_base.specs.declared.link.Link.{Link}
use Rattle.geo_base.specs.Job.{compat_of}
use Rattle.geo_base.specs.Answer.{best}
use Rattle.geo_base.specs.declared.answer.Answer.{Answer}
use Rattle.geo_layer.specs.Layer.{compat}
use Rattle.geo_layer.specs.declared.head.Head.{Head}
use Rattle.geo_query.specs.QueryView.{QueryView}
use Rattle.feature_reader.specs.Table.{Table}
use Rattle.plain_answer.specs.Links.{links}
use Rattle.plain_answer.specs.Count.{count}
use Rattle.plain_answer.specs.Answering.{answer_of}
use Rattle.plain_answer.proofs.Agreeing.{in_layers}
use Rattle.plain_answer.proofs.SameCompat.{best_same}

-- the best contexts of its links
pub answered : (head : Head) (table : Table) (limit : ℕ) (q : QueryView) (a : Answer) → count head table q ≤ limit → a.tokens ≡ length q.tokens → a.contexts ≡ best (compat head.layers) (links head table q) → answer_of head table limit q ≡ Ok a
answered head table limit q a within tokens contexts =
    ap (λ b. cond b (Err (record { total = count head table q; limit = limit })) (Ok (record { tokens = length q.tokens; contexts = best (compat head.layers) (links head table q) }))) (le-ltb limit (count head table q) within)
    ∙ (ap (λ n. Ok (record { tokens = n; contexts = best (compat head.layers) (links head table q) })) (sym tokens)
    ∙ ap (λ cs. Ok (record { tokens = a.tokens; contexts = cs })) (sym contexts))

-- the layer of each of its links is below 16
pub in_16 : (head : Head) (table : Table) (q : QueryView) → length head.layers ≤ 16 → All (λ l. l.layer < 16) (links head table q)
in_16 head table q few = All-weaker (λ l. l.layer < length head.layers) (λ l. l.layer < 16) (λ l within. omega (arith, within, few)) (links head table q) (in_layers head table q)

-- their best contexts by the bits of the layers that are compatible
pub best_by_bits : (head : Head) (table : Table) (q : QueryView) (stacks : List ℕ) → length head.layers ≤ 16 → ((a b : ℕ) → a < 16 → b < 16 → compat_of stacks a b ≡ compat head.layers a b)
    → best (compat_of stacks) (links head table q) ≡ best (compat head.layers) (links head table q)
best_by_bits head table q stacks few bits =
    best_same (compat_of stacks) (compat head.layers) (links head table q) (λ a b in_a in_b. bits a.layer b.layer (low a in_a) (low b in_b))
  where
    low : (l : Link) → Contains (links head table q) l → l.layer < 16
    low l c = All-contains (λ (m : Link). m.layer < 16) (links head table q) l (in_16 head table q few) c
