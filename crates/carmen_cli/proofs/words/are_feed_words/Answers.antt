use Rattle.std.proofs.Common.{◌∙◌, sym, rules, tests, string_bytes}
use Rattle.std.proofs.lemmas.Iterator.{YieldsList-from_slice}
use Rattle.std.proofs.lemmas.Iterator.Search.{all_from_yields_List}
use Rattle.std.proofs.lemmas.List.Folds.{list_all-map}
use Rattle.carmen_cli.specs.TopCall.{is_feed_word}
use Rattle.carmen_cli.proofs.words.are_feed_words.Goals as goal

pub returns : goal.returns
returns c =
    all_from_yields_List (λ word. is_feed_word (string_bytes word)) _ _ c.all.result c.all.ensures.ran (YieldsList-from_slice c.args.words.now c.iter.ensures.rest) (λ x b q called. search (rules, tests))
    ∙ sym (list_all-map is_feed_word string_bytes c.args.words.now)
