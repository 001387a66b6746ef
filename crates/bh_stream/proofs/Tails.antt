-- What the items behind a head say.
use Rattle.std.proofs.Common.{◌≡◌, ℕ, List, [], ◌∷◌, ◌++◌, map, refl, ap}
use Rattle.bh_spec.specs.declared.Omitted.{Omitted}
use Rattle.bh_spec.specs.declared.Omitted.TheVariants.{Nothing, Trailers, Both}
use Rattle.bh_spec.specs.Messages.{Field}
use Rattle.bh_spec.specs.Items.{Item, content_byte, trailer_items, ending}
use Rattle.bh_stream.specs.Tails.{content_of, trailers_of}

pub content_behind : (bytes : List ℕ) (q : List Item) → content_of (map content_byte bytes ++ q) ≡ bytes ++ content_of q
content_behind [] q = refl
content_behind (x ∷ bytes) q = ap (λ (l : List ℕ). x ∷ l) (content_behind bytes q)

pub trailers_behind : (bytes : List ℕ) (q : List Item) → trailers_of (map content_byte bytes ++ q) ≡ trailers_of q
trailers_behind [] q = refl
trailers_behind (x ∷ bytes) q = trailers_behind bytes q

pub no_content : (omitted : Omitted) (padding : ℕ) (trailers : List Field) → content_of (trailer_items omitted trailers ++ ending omitted padding ∷ []) ≡ []
no_content Nothing padding trailers = refl
no_content Trailers padding trailers = refl
no_content Both padding trailers = refl
