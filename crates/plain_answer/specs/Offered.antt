-- For private contracts alone: the contexts that are offered together.
use Rattle.std.specs.Prelude.{ℕ, List, ◌∷◌, ◌++◌, map}
use Rattle.geo_base.specs.declared.link.Link.{Link}
use Rattle.geo_base.specs.Link.{Compat, stacks}
use Rattle.geo_base.specs.Chain.{chains}

-- a context, and all that go on from it by at most n of these links
abbrev pub with_more : Compat → ℕ → List Link → List Link → List (List Link)
with_more compat n context below = context ∷ map (λ c. context ++ c) (chains (stacks compat) n below)
