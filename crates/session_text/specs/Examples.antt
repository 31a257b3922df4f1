-- Sessions that serve as examples.
use Rattle.std.specs.Prelude.{ℕ, true, false, List, [], ◌∷◌, codes, None}
use Rattle.geo_layer.specs.Layer.{LayerView}
use Rattle.feature_reader.specs.Languages.{all_languages}
use Rattle.feature_reader.specs.FeatureView.{FeatureView}
use Rattle.geo_layer.specs.declared.head.Head.{Head}
use Rattle.session_text.specs.Reading.{Reading, reading, at_end_line}
use Rattle.session_text.specs.declared.session.Kind.TheVariants.{Asks}
use Rattle.session_text.specs.declared.body.BodyLine.{BodyLine}
use Rattle.session_text.specs.declared.body.BodyLine.TheVariants.{Put, Publish, Ask}

-- a layer of places with one city, which is asked for by its name and by a part of it
abbrev pub city : List ℕ
city = codes "carmen 1\nlayer {\"name\":\"place\",\"zoom\":6}\nput 0 {\"id\":7,\"properties\":{\"carmen:text\":\"New York\",\"carmen:zxy\":[\"6/32/32\",\"6/33/32\"]}}\npublish\nask 0 auto=0 | new york\nask 0 auto=0 | york\nend\n"

-- its layer
abbrev pub place : LayerView
place = record { name = codes "place"; zoom = 6; stack = None; scoremax = 15; tokens = [] }

-- the city
abbrev pub new_york : FeatureView
new_york = record { id = 7; score = 0; phrases = record { text = codes "new york"; set = record { bits = all_languages }; relev = 100 } ∷ []; tiles = record { z = 6; x = 32; y = 32 } ∷ record { z = 6; x = 33; y = 32 } ∷ [] }

-- its lines
abbrev pub city_body : List BodyLine
city_body = Put 0 new_york ∷ Publish ∷ Ask 0 (codes "auto=0 | new york") ∷ Ask 0 (codes "auto=0 | york") ∷ []

-- the same without the last line feed
abbrev pub city_without_feed : List ℕ
city_without_feed = codes "carmen 1\nlayer {\"name\":\"place\",\"zoom\":6}\nput 0 {\"id\":7,\"properties\":{\"carmen:text\":\"New York\",\"carmen:zxy\":[\"6/32/32\",\"6/33/32\"]}}\npublish\nask 0 auto=0 | new york\nask 0 auto=0 | york\nend"

-- the same without its end
abbrev pub city_without_end : List ℕ
city_without_end = codes "carmen 1\nlayer {\"name\":\"place\",\"zoom\":6}\nput 0 {\"id\":7,\"properties\":{\"carmen:text\":\"New York\",\"carmen:zxy\":[\"6/32/32\",\"6/33/32\"]}}\npublish\nask 0 auto=0 | new york\nask 0 auto=0 | york\n"

-- a head with that layer and no languages
abbrev pub one_layer : Head
one_layer = record { langs = []; layers = place ∷ [] }

-- a comment, an empty line, and a drop in a layer that isn't there
abbrev pub bad_drop : List ℕ
bad_drop = codes "carmen 1\r\nlayer {\"name\":\"place\",\"zoom\":6}\n# places\n\ndrop 3 9\n"

-- the reading of these bytes, after which the source ends
abbrev pub read_whole : List ℕ → Reading
read_whole bytes = reading 0 Asks true bytes

-- the reading of these bytes, after which more may follow
abbrev pub read_open : List ℕ → Reading
read_open bytes = reading 0 Asks false bytes

-- a session of one layer and one round, read to its end
abbrev pub ended_with : List BodyLine → Reading
ended_with lines = record { head = one_layer; rounds = lines ∷ []; ending = at_end_line }
