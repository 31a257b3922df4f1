use Rattle.std.proofs.Common.{sym, subst, Some, List, ℕ}
use Rattle.feature_feed.specs.CsvRows.{GivesRow}
use Rattle.feature_feed.proofs.CsvFeedFacts.{row_given, none_given, rows_told}
use Rattle.feature_feed.proofs.csv_feed.Opened.next.Goals as goal

pub returns-in-Ok-Some-clause-taken : goal.returns-in-Ok-Some-clause-taken
returns-in-Ok-Some-clause-taken c = λ items is.
    row_given c.args.self.now.rows c.next.new.self c.from_record.result items is
    (λ rs same. subst (λ (f : List (List ℕ)). GivesRow rs (Some f) c.next.new.self) (sym c.from_record.ensures) (rw c.in-Ok-Some.field-0-is at c.in-Ok-Some.ensures.taken rs same))

pub returns-in-Ok-None-clause-taken : goal.returns-in-Ok-None-clause-taken
returns-in-Ok-None-clause-taken c = λ items is.
    none_given c.args.self.now.rows c.next.new.self items is (λ rs same. rw c.in-Ok-None.field-0-is at c.in-Ok-None.ensures.taken rs same)

pub returns-in-Ok-Some-clause-told : goal.returns-in-Ok-Some-clause-told
returns-in-Ok-Some-clause-told c = rows_told c.args.self.now.rows c.next.new.self c.next.ensures.told

pub returns-in-Ok-None-clause-told : goal.returns-in-Ok-None-clause-told
returns-in-Ok-None-clause-told c = rows_told c.args.self.now.rows c.next.new.self c.next.ensures.told

pub returns-in-Err-clause-told : goal.returns-in-Err-clause-told
returns-in-Err-clause-told c = rows_told c.args.self.now.rows c.next.new.self c.next.ensures.told
