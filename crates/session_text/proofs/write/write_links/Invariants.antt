use Rattle.std.proofs.Common.{◌≡◌, ◌++◌, take}
use Rattle.std.specs.Prelude.{flat_map}
use Rattle.session_text.specs.Reply.{link_text}
use Rattle.session_text.proofs.write.write_links.Given as goal

-- the texts of the links so far
abbrev pub invariant-loop-link : goal.invariant-loop-link
invariant-loop-link l = l.out.items ≡ l.fn.out.items ++ flat_map link_text (take l.link-index l.links)
