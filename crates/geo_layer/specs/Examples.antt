-- Layers that serve as examples.
use Rattle.std.specs.Prelude.{ℕ, List, [], ◌∷◌, codes, encode_utf8_all, replicate, Some, None}
use Rattle.geo_layer.specs.Layer.{LayerView}

-- a layer that may be stacked with every other
abbrev pub plain : List ℕ → ℕ → LayerView
plain name zoom = record { name = name; zoom = zoom; stack = None; scoremax = 15; tokens = [] }

-- 16 layers of zoom 0
abbrev pub sixteen : List LayerView
sixteen = replicate 16 (plain (codes "a") 0)

-- a text of a layer with a stack of two words
abbrev pub stacked_text : List ℕ
stacked_text = codes "{\"name\":\"place\",\"zoom\":6,\"stack\":[\"de\",\"at-1\"]}"

-- the layer that it stands for
abbrev pub stacked : LayerView
stacked = record { name = codes "place"; zoom = 6; stack = Some (codes "de" ∷ codes "at-1" ∷ []); scoremax = 15; tokens = [] }

-- a text of a layer that replaces two tokens and has a scale of scores of its own
abbrev pub street_text : List ℕ
street_text = codes "{\"name\":\"street\",\"zoom\":14,\"scoremax\":100,\"tokens\":{\"St.\":\"Street\",\"av\":\"avenue\"},\"stack\":null}"

-- the layer that it stands for
abbrev pub street : LayerView
street = record { name = codes "street"; zoom = 14; stack = None; scoremax = 100; tokens = (codes "av", codes "avenue") ∷ (codes "st", codes "street") ∷ [] }

-- a text of a layer that replaces a token of Greek, with its accents and its last sigma
abbrev pub greek_text : List ℕ
greek_text = encode_utf8_all (codes "{\"name\":\"street\",\"zoom\":14,\"tokens\":{\"ΟΔ.\":\"Οδός\"}}")

-- the layer that it stands for
abbrev pub greek : LayerView
greek = record { name = codes "street"; zoom = 14; stack = None; scoremax = 15; tokens = (encode_utf8_all (codes "οδ"), encode_utf8_all (codes "οδοσ")) ∷ [] }
