use Rattle.std.proofs.Common.{◌≡◌, ◌∙◌, ◌+◌, ◌*◌, ◌≤◌, ℕ, map, All, sym, subst, arith}
use Rattle.std.specs.Map.Iter.{deref_pair}
use Rattle.std.proofs.lemmas.List.Elements.{All-cons}
use Rattle.std.proofs.lemmas.Map.Iter.{rest_more, rest_all}
use Rattle.feature_reader.specs.FeatureView.{FeatureView, IsFeature}
use Rattle.feature_reader.specs.Table.{entry_of, rows}
use Rattle.plain_answer.specs.Count.{product_count}
use Rattle.plain_answer.proofs.CountFacts.{count_is_product, more_counted, more_bounded}
use Rattle.plain_answer.proofs.Differing.{none}
use Rattle.plain_answer.proofs.count.count_of.Goals as goal

pub loop-place-preserved : goal.loop-place-preserved
loop-place-preserved c =
    let head = c.args.head.now in
    let q = c.args.query.now in
    let rest = map entry_of c.next.new.self in
    let turn = rest_more deref_pair _ _ _ _ c.in-Some.is c.next.ensures.steps in
    let value = subst (λ es. c.loop-place.count + product_count head (map entry_of es) q ≡ product_count head c.args.table.now q) turn c.loop-place.invariant.value in
    let bound = subst (λ es. c.loop-place.count + 400 * rows (map entry_of es) ≤ 400 * rows c.args.table.now) turn c.loop-place.invariant.bound in
    record {
      value = more_counted head q c.in-Some.place.now.layer c.in-Some.feature.now rest c.args.table.now c.loop-place.count c.feature_count-count.result value c.feature_count-count.ensures.value;
      bound = more_bounded c.in-Some.place.now.layer c.in-Some.feature.now rest c.args.table.now c.loop-place.count c.feature_count-count.result bound c.feature_count-count.ensures.bound;
      features = λ fine. c.loop-place.invariant.features
          (subst (λ es. All (λ (e : ℕ × FeatureView). IsFeature e.1) (map entry_of es)) (sym turn)
          (All-cons (λ (e : ℕ × FeatureView). IsFeature e.1) (c.in-Some.place.now.layer, c.in-Some.feature.now) rest c.feature_count-count.ensures.feature fine));
    }

pub returns : goal.returns
returns c =
    let left = rest_all deref_pair _ _ _ c.in-None.is c.next.ensures.steps in
    let counted = subst (λ es. c.loop-place.count + product_count c.args.head.now (map entry_of es) c.args.query.now ≡ product_count c.args.head.now c.args.table.now c.args.query.now) left c.loop-place.invariant.value in
    let all : c.loop-place.count ≡ product_count c.args.head.now c.args.table.now c.args.query.now = omega (arith, counted) in
    all
    ∙ sym (count_is_product c.args.head.now c.args.table.now c.args.query.now c.len-rows.ensures.is
    (c.loop-place.invariant.features (subst (λ es. All (λ (e : ℕ × FeatureView). IsFeature e.1) (map entry_of es)) (sym left) (none (λ (e : ℕ × FeatureView). IsFeature e.1)))))
