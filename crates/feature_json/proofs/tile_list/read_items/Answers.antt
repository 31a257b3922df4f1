use Rattle.std.proofs.Common.{◌≡◌, ◌-◌, ◌<◌, [], ◌∷◌, ◌++◌, length, Some, None, sym, ap, ◌∙◌, arith}
use Rattle.json.specs.Json.{parse_map, after_end_array, items, value}
use Rattle.serde_json.specs.Data.{no_items}
use Rattle.serde_json.specs.Read.{of_items, converted}
use Rattle.geo_layer.specs.Json.{each_of}
use Rattle.feature_json.specs.Tiles.{tile_in}
use Rattle.feature_json.proofs.Turns.{item_read, item_refused, items_over}
use Rattle.feature_json.proofs.Listed.{before, list_before, one_more_before, nothing_before}
use Rattle.feature_json.proofs.tile_list.read_items.Goals as goal

pub items-init : goal.items-init
items-init c =
    let all = converted of_items (items (value c.args.depth) (length c.args.reader.now) c.args.reader.now) in
    (length c.args.reader.now, [], omega arith, nothing_before all, omega arith, ap Some c.clear.ensures.items)

pub returns-in_err-seen-clause-err : goal.returns-in_err-seen-clause-err
returns-in_err-seen-clause-err c refused =
    let p = value c.args.depth in
    let l = c.items in
    let n = l.invariant.0 in
    let ds = l.invariant.1 in
    let going : (after_end_array l.reader ≡ None) × (c.take_end_array.new.self ≡ l.reader) = grind arith in
    l.invariant.3 ∙ ap (parse_map (before ds)) (item_refused p n l.reader going.0 (rw (← going.1) c.in_err-seen.ensures.err))

pub items-preserved : goal.items-preserved
items-preserved c =
    let p = value c.args.depth in
    let l = c.items in
    let n = l.invariant.0 in
    let ds = l.invariant.1 in
    let going : (after_end_array l.reader ≡ None) × (c.take_end_array.new.self ≡ l.reader) = grind arith in
    let done = c.in_ok-seen.ensures in
    let d = done.ok.0 in
    let r = c.see.new.reader in
    let less : length r < length l.reader = rw (← going.1) done.shorter in
    let turn = item_read p n l.reader r d (omega (arith, l.invariant.2)) going.0 (rw (← going.1) done.ok.1) in (
      n - 1,
      ds ++ d ∷ [],
      omega (arith, l.invariant.2),
      l.invariant.3 ∙ ap (parse_map (before ds)) turn ∙ one_more_before ds d _,
      omega (arith, l.invariant.4),
      c.in_ok-good.ensures d ds done.ok.2 l.invariant.5,
    )

pub returns-clause-ok : goal.returns-clause-ok
returns-clause-ok c =
    let p = value c.args.depth in
    let l = c.items in
    let n = l.invariant.0 in
    let ds = l.invariant.1 in
    let r = c.take_end_array.new.self in
    (before ds no_items, l.invariant.3 ∙ ap (parse_map (before ds)) (items_over p n l.reader r l.invariant.2 (grind arith)), l.invariant.5 ∙ ap (each_of tile_in) (sym (list_before ds)))
