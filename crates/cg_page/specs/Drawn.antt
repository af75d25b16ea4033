-- The ring, drawn as arcs of a circle that is 65,536 long.
use Rattle.std.specs.Prelude.{ℕ, ◌+◌, ◌-◌, ◌*◌, ◌/◌, ◌%◌, ◌^◌, List, [], ◌∷◌, ◌++◌, Option, Some, None, codes, decimal, slice_index, slice_get}
use Rattle.std.specs.Int.{w32, to_be_bytes}
use Rattle.cg_types.specs.Numbers.{address_of, port_of}
use Rattle.cg_types.specs.EndpointText.{endpoint_text}
use Rattle.cg_tokens.specs.Tokens.{token_text}

-- the hue of an endpoint, in degrees: by the last byte of its address, and its port
abbrev pub hue : ℕ → ℕ
hue e = (slice_index (to_be_bytes w32 (address_of e)) 3 + port_of e) * 137 % 360

unfoldable pub colour : ℕ → List ℕ
colour e = codes "hsl(" ++ (decimal (hue e) ++ codes " 65% 50%)")

-- the place of a token on the circle
abbrev pub place_of : ℕ → ℕ
place_of token = token / 2 ^ 111

-- the arc of a length from a place on, in the colour of an endpoint
unfoldable pub stroke : ℕ → ℕ → ℕ → List ℕ
stroke from length e =
    codes "<circle r=\"90\" pathLength=\"65536\" stroke=\"" ++ (colour e ++ (codes "\" stroke-dasharray=\"0 " ++ (decimal from
    ++ (codes " " ++ (decimal length ++ codes " 65536\">")))))

-- its title: the token and the endpoint that it leads to
unfoldable pub title : ℕ → ℕ → List ℕ
title token e = codes "<title>" ++ (token_text token ++ (codes " " ++ (endpoint_text e ++ codes "</title></circle>\n")))

unfoldable pub arc : ℕ → ℕ → ℕ → ℕ → List ℕ
arc from length token e = stroke from length e ++ title token e

-- the arcs to positions, from a place on
abbrev pub arcs_from : ℕ → List (ℕ × ℕ) → List ℕ
arcs_from from [] = []
arcs_from from (p ∷ ps) = arc from (place_of p.0 - from) p.0 p.1 ++ arcs_from (place_of p.0) ps

-- the place of the last position, or the one given
abbrev pub end_from : ℕ → List (ℕ × ℕ) → ℕ
end_from from [] = from
end_from from (p ∷ ps) = end_from (place_of p.0) ps

-- the arc from a place to the end of the circle, which leads on to the first position
abbrev pub closing : ℕ → Option (ℕ × ℕ) → List ℕ
closing from None = []
closing from (Some first) = arc from (65536 - from) first.0 first.1

-- all arcs
abbrev pub arcs : List (ℕ × ℕ) → List ℕ
arcs positions = arcs_from 0 positions ++ closing (end_from 0 positions) (slice_get positions 0)
