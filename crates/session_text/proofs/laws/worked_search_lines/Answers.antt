use Rattle.std.proofs.Common.{refl}
use Rattle.std.specs.Fmt.{digits}
use Rattle.session_text.proofs.laws.worked_search_lines.Goals as goal

pub returns : goal.returns
unfolding digits
returns c = record { explain = refl; bare = refl; replay = refl; no_events = refl; two_marks = refl; no_mark = refl; ninth = refl; word = refl; illegal = refl; unfinished = refl }
