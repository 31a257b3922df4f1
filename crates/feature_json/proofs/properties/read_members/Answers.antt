use Rattle.std.proofs.Common.{◌≡◌, ◌-◌, length, Some, refl, ap, ap₂, ◌∙◌, arith}
use Rattle.json.specs.Json.{read_key, value}
use Rattle.json.proofs.Grammar.{read_key-shorter}
use Rattle.serde_json.specs.Data.{no_members, put}
use Rattle.feature_json.specs.Said.{kept}
use Rattle.feature_json.proofs.Owned.{Rising-put}
use Rattle.feature_json.proofs.Noted.{with_tiles}
use Rattle.feature_json.proofs.Turns.{member_read, member_refused, key_refused, members_over}
use Rattle.feature_json.proofs.properties.read_members.Goals as goal

pub members-init : goal.members-init
members-init c = (length c.args.reader.now, no_members, omega arith, refl, omega arith, ap₂ (with_tiles) c.new-found.ensures.values (ap (λ b. kept b c.args.tiles.now.items) c.new-found.ensures.tiles), tt)

pub returns-in_err-name-clause-err : goal.returns-in_err-name-clause-err
returns-in_err-name-clause-err c refused =
    let p = value c.args.depth in
    let l = c.members in
    l.invariant.3 ∙ key_refused p l.invariant.1 l.invariant.0 l.reader c.in_err-name.ensures.value

pub members-preserved : goal.members-preserved
members-preserved c =
    let p = value c.args.depth in
    let l = c.members in
    let n = l.invariant.0 in
    let old = l.invariant.1 in
    let k = c.in-Some.name.now in
    let s = c.next_key.new.self in
    let named : read_key l.reader ≡ Some (Some k, s) = grind arith in
    let done = c.in_ok-read.ensures in
    let d = done.ok.0 in
    let r = c.read.new.reader in
    let less = read_key-shorter l.reader (Some k) s named in
    let lesser = done.shorter in (
      n - 1,
      put k d old,
      omega (arith, l.invariant.2),
      l.invariant.3 ∙ member_read p old n k l.reader s r d (omega (arith, l.invariant.2)) named done.ok.1,
      omega (arith, l.invariant.4),
      done.ok.2 old l.invariant.6 l.invariant.5,
      Rising-put k d old l.invariant.6,
    )

pub returns-in_err-read-clause-err : goal.returns-in_err-read-clause-err
returns-in_err-read-clause-err c refused =
    let p = value c.args.depth in
    let l = c.members in
    let n = l.invariant.0 in
    let old = l.invariant.1 in
    let k = c.in-Some.name.now in
    let s = c.next_key.new.self in
    let named : read_key l.reader ≡ Some (Some k, s) = grind arith in
    l.invariant.3 ∙ member_refused p old n k l.reader s named (c.in_err-read.ensures.err (grind arith))

pub returns-clause-ok : goal.returns-clause-ok
returns-clause-ok c =
    let p = value c.args.depth in
    let l = c.members in
    (l.invariant.1, l.invariant.3 ∙ members_over p l.invariant.1 l.invariant.0 l.reader c.next_key.new.self l.invariant.2 (grind arith), l.invariant.5)
