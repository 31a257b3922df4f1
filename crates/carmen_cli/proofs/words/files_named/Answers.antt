use Rattle.std.proofs.Common.{◌≡◌, string_bytes, List, subst, rules, tests, IfOk}
use Rattle.std.proofs.lemmas.Iterator.{items_from_collect, YieldsList-from_slice}
use Rattle.std.proofs.lemmas.Iterator.Consumers.{YieldsList-from_filter_map}
use Rattle.carmen_cli.specs.TopCall.{FileView, feed_word}
use Rattle.carmen_cli.proofs.FeedFiles.{filter_map-map}
use Rattle.carmen_cli.proofs.words.files_named.Goals as goal

pub returns : goal.returns
returns c =
    subst (λ (all : List FileView). IfOk c.collect.result (λ files. files.items ≡ all)) (filter_map-map feed_word string_bytes c.args.words.now)
    (items_from_collect c.collect.result c.collect.ensures.ran (YieldsList-from_filter_map _ (λ word. feed_word (string_bytes word)) (YieldsList-from_slice c.args.words.now (search rules)) (search rules) (λ x r q called. search (rules, tests))))
