-- Merging lists of contexts one after another.
use Rattle.std.specs.Prelude.{List, fold}
use Rattle.geo_base.specs.declared.link.Link.{Link}
use Rattle.search_core.specs.Machine.{WorkerState}
use Rattle.top_list.specs.Merged.{merged}

-- a list after those of workers were merged into it in turn
abbrev pub merged_tops : List (List Link) → List WorkerState → List (List Link)
merged_tops top workers = fold (λ t w. merged t w.top) top workers
