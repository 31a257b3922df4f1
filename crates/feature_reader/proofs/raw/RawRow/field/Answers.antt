use Rattle.std.proofs.Common.{◌≡◌, ◌∙◌, List, ℕ, ap}
use Rattle.std.specs.Prelude.{slice_get}
use Rattle.csv.specs.Records.{fields_of}
use Rattle.feature_reader.proofs.RowFacts.{same_field}
use Rattle.feature_reader.proofs.raw.RawRow.field.Goals as goal

pub returns : goal.returns
returns c =
    let seen : fields_of c.self.inside.row ≡ c.args.self.now = c.self.view_is in
    c.get.ensures.value ∙ same_field (fields_of c.self.inside.row) c.args.place ∙ ap (λ (fields : List (List ℕ)). slice_get fields c.args.place) seen
