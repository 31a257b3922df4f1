use Rattle.std.proofs.Common.{◌≡◌, ◌++◌, take}
use Rattle.std.specs.Prelude.{flat_map}
use Rattle.session_text.specs.Reply.{context_text}
use Rattle.session_text.proofs.write.write_contexts.Given as goal

-- the lines of the contexts so far
abbrev pub invariant-loop-place : goal.invariant-loop-place
invariant-loop-place l = l.out.items ≡ l.fn.out.items ++ flat_map (context_text l.tokens) (take l.place l.contexts)
