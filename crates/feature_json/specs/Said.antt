-- The members of a feature that count, as the bytes of a JSON text say them.
use Rattle.std.specs.Prelude.{ℕ, List, Bool, true, false, codes, Option, Some, None, option_map, option_and_then}
use Rattle.serde_json.specs.Data.{Members}
use Rattle.serde_json.specs.Find.{get_member, as_object}
use Rattle.geo_base.specs.TileView.{TileView}
use Rattle.geo_layer.specs.Json.{data_of}
use Rattle.feature_json.specs.Shape.{Shape, shape, shape_of}
use Rattle.feature_json.specs.Own.{own_members}
use Rattle.feature_json.specs.Tiles.{all_tiles}
use Rattle.feature_json.specs.declared.properties.Properties.{Properties}
use Rattle.feature_json.specs.declared.members.FeatureMembers.{FeatureMembers}

-- what is seen of the members of `properties` that count, but for the tiles: of `carmen:text`, `carmen:score`, `carmen:relev`, and of those whose names begin with `carmen:text_`
pub record SaidValues : Type 0 where
  pub text : Option Shape
  pub score : Option Shape
  pub relev : Option Shape
  pub own : List (List ℕ × Shape)

-- what is seen of them among the members of `properties`
abbrev pub values_said : Members → SaidValues
values_said members =
    record {
      text = option_map shape (get_member (codes "carmen:text") members);
      score = option_map shape (get_member (codes "carmen:score") members);
      relev = option_map shape (get_member (codes "carmen:relev") members);
      own = own_members members;
    }

-- these, and the tiles that `carmen:zxy` names, where it is a list of strings that each name one
pub record SaidProperties : Type 0 where
  pub values : SaidValues
  pub tiles : Option (List TileView)

-- what the members of `properties` say
abbrev pub properties_said : Members → SaidProperties
properties_said members = record { values = values_said members; tiles = all_tiles (get_member (codes "carmen:zxy") members) }

-- what is seen of `id`, and what `properties` says where it is an object
pub record Said : Type 0 where
  pub id : Option Shape
  pub properties : Option SaidProperties

-- what the members of an object say of a feature
abbrev pub members_said : Members → Said
members_said members =
    record {
      id = option_map shape (get_member (codes "id") members);
      properties = option_map properties_said (option_and_then as_object (get_member (codes "properties") members));
    }

-- what bytes say of a feature: nothing where they aren't UTF-8, no JSON text or no object
abbrev pub said : List ℕ → Option Said
said bytes = option_map members_said (option_and_then as_object (data_of bytes))

-- the tiles, where each entry of the list named one
abbrev pub kept : Bool → List TileView → Option (List TileView)
kept true tiles = Some tiles
kept false tiles = None

-- what a `Properties` says, but for the tiles
abbrev pub values_of : Properties → SaidValues
values_of p = record { text = option_map shape_of p.text; score = option_map shape_of p.score; relev = option_map shape_of p.relev; own = p.own }

-- what a `Properties` says, with the tiles that were read beside it
abbrev pub properties_of : List TileView → Properties → SaidProperties
properties_of tiles p = record { values = values_of p; tiles = kept p.tiles_are_named tiles }

-- what a `FeatureMembers` says, with the tiles that were read beside it
abbrev pub said_by : List TileView → FeatureMembers → Said
said_by tiles m = record { id = option_map shape_of m.id; properties = option_map (properties_of tiles) m.properties }
