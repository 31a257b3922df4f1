-- Replies and the lines of a session's output, as text.
use Rattle.std.specs.Prelude.{ℕ, ◌*◌, Bool, List, [], ◌++◌, length, codes, decimal, flat_map, sum_by, if◌then◌else◌, Result, Ok, Err}
use Rattle.geo_base.specs.TileView.{TileView}
use Rattle.geo_base.specs.declared.link.Link.{Link}
use Rattle.geo_base.specs.Order.{target_score}
use Rattle.feature_reader.specs.declared.taker.PutFault.{PutFault}
use Rattle.feature_reader.specs.declared.taker.PutFault.TheVariants.{TooManyFeatures, TooManyRows}
use Rattle.feature_reader.specs.declared.taker.Taken.{Taken}
use Rattle.feature_reader.specs.declared.taker.Taken.TheVariants.{New, Changed}
use Rattle.feature_reader.specs.declared.load_report.LoadReport.{LoadReport}
use Rattle.feature_reader.specs.declared.load_report.LoadEnd.{LoadEnd}
use Rattle.feature_reader.specs.declared.load_report.LoadEnd.TheVariants.{End, Fault, Limit}
use Rattle.geo_query.specs.declared.query.QueryFault.{QueryFault}
use Rattle.geo_query.specs.declared.query.QueryFault.TheVariants.{WrongOption, Box, Long, Empty, Tokens}
use Rattle.geo_query.specs.declared.reply.Reply.{Reply}
use Rattle.geo_query.specs.declared.reply.Reply.TheVariants.{Found, Unreadable, Grids, Memory}
use Rattle.session_text.specs.declared.replay_reply.ReplayReply.{ReplayReply}
use Rattle.session_text.specs.declared.replay_reply.ReplayReply.TheVariants.{Plain, Illegal, Unfinished}

-- `@Z/X/Y`
abbrev pub tile_text : TileView → List ℕ
tile_text t = codes "@" ++ decimal t.z ++ codes "/" ++ decimal t.x ++ codes "/" ++ decimal t.y

-- ` LAYER:ID@Z/X/Y[FROM,TO)=VALUE`
abbrev pub link_text : Link → List ℕ
link_text l =
    codes " " ++ decimal l.layer ++ codes ":" ++ decimal l.id ++ tile_text l.tile
    ++ codes "[" ++ decimal l.from ++ codes "," ++ decimal l.to ++ codes ")=" ++ decimal l.value

-- `context R/T score S`, and the links from deep to shallow: R is the sum of the values, T the most that so many tokens can have, S the target's score
abbrev pub context_text : ℕ → List Link → List ℕ
context_text tokens links =
    codes "context " ++ decimal (sum_by (λ l. l.value) links) ++ codes "/" ++ decimal (10000 * tokens) ++ codes " score " ++ decimal (target_score links) ++ flat_map link_text links ++ codes "\n"

-- the number and the name of a fault
abbrev pub fault_text : QueryFault → List ℕ
fault_text WrongOption = codes "1 Option"
fault_text Box = codes "2 Box"
fault_text Long = codes "3 Long"
fault_text Empty = codes "4 Empty"
fault_text Tokens = codes "5 Tokens"

-- the text of a reply, with a line for each context
abbrev pub answer_text : Reply → List ℕ
answer_text (Found generation answer) =
    codes "gen " ++ decimal generation ++ codes " found " ++ decimal (length answer.contexts) ++ codes "\n" ++ flat_map (context_text answer.tokens) answer.contexts
answer_text (Unreadable fault) = codes "unreadable " ++ fault_text fault ++ codes "\n"
answer_text (Grids generation total limit) = codes "gen " ++ decimal generation ++ codes " grids " ++ decimal total ++ codes " " ++ decimal limit ++ codes "\n"
answer_text Memory = codes "memory\n"

-- the text of an ask: its lane, its place among the lane's asks, and the reply
abbrev pub reply_text : ℕ → ℕ → Reply → List ℕ
reply_text lane place reply = codes "ask " ++ decimal lane ++ codes " " ++ decimal place ++ codes " " ++ answer_text reply

-- how many partials the search opened and cut, where it found an answer; nothing after another reply
abbrev pub counts_text : Reply → ℕ → ℕ → List ℕ
counts_text (Found generation answer) opens cuts = codes "opens " ++ decimal opens ++ codes " cuts " ++ decimal cuts ++ codes "\n"
counts_text reply opens cuts = []

-- the text of an explained query: the reply, and how many partials the search opened and cut
abbrev pub explain_text : Reply → ℕ → ℕ → List ℕ
explain_text reply opens cuts = codes "explain " ++ answer_text reply ++ counts_text reply opens cuts

-- the text of a query whose search went by given events: the reply; or the place of the first event that isn't allowed, or the first root that isn't done
abbrev pub replay_text : ReplayReply → List ℕ
replay_text (Plain reply) = codes "replay " ++ answer_text reply
replay_text (Illegal generation place) = codes "replay gen " ++ decimal generation ++ codes " illegal " ++ decimal place ++ codes "\n"
replay_text (Unfinished generation root) = codes "replay gen " ++ decimal generation ++ codes " unfinished " ++ decimal root ++ codes "\n"

-- what a put answers, in a word: the feature is new, or it changed one that stood; or there would be too many features, or too many rows
abbrev pub taken_word : Result Taken PutFault → List ℕ
taken_word (Ok New) = codes "new"
taken_word (Ok Changed) = codes "changed"
taken_word (Err TooManyFeatures) = codes "features"
taken_word (Err TooManyRows) = codes "rows"

-- the text of a put: its layer, its feature, and what it answers
abbrev pub put_text : ℕ → ℕ → Result Taken PutFault → List ℕ
put_text layer id answer = codes "put " ++ decimal layer ++ codes " " ++ decimal id ++ codes " " ++ taken_word answer ++ codes "\n"

-- the text of a publication: its number
abbrev pub published_text : ℕ → List ℕ
published_text number = codes "published " ++ decimal number ++ codes "\n"

-- the text of a drop: the layer, the id, and whether the feature stood there
abbrev pub drop_text : ℕ → ℕ → Bool → List ℕ
drop_text layer id gone = codes "drop " ++ decimal layer ++ codes " " ++ decimal id ++ (if gone then codes " gone\n" else codes " none\n")

-- the text of a limit
abbrev pub limit_text : ℕ → List ℕ
limit_text n = codes "limit " ++ decimal n ++ codes "\n"

-- how a load ended
abbrev pub end_text : LoadEnd → List ℕ
end_text End = codes " end\n"
end_text Fault = codes " fault\n"
end_text Limit = codes " limit\n"

-- what a load did: the items read, the bad ones, the refused ones, and how it ended
abbrev pub report_text : LoadReport → List ℕ
report_text r = codes " read " ++ decimal r.read ++ codes " bad " ++ decimal r.bad ++ codes " full " ++ decimal r.full ++ end_text r.end

-- the text of a load: its feed, its layer, and what it did
abbrev pub load_text : ℕ → ℕ → LoadReport → List ℕ
load_text feed layer r = codes "load " ++ decimal feed ++ codes " " ++ decimal layer ++ report_text r
