-- Tags, what they lead to, and their values.
--
-- A dirtyable tag's value is the revision of its last dirtying, or of its making. A combined tag's is the greatest of
-- those of the dirtyable tags that it leads to, 0 where there are none. The constant tag's is 0.
use Rattle.std.specs.Prelude.{◌≡◌, ℕ, ◌+◌, ◌^◌, ◌<◌, ◌≤◌, Bool, true, false, not, List, [], ◌∷◌, map, flat_map, max, Option, Some, None, refl}
use Rattle.std.specs.List.{list_any}
use Rattle.std.specs.Coded.{Coded, code_by, coded×, coded_ℕ, coded_list, coded_option}
use Rattle.gl_arena.specs.Id.{Id, same_id}
use Rattle.gl_arena.specs.Arena.{Arena, arena_code, named, with_value, Gives}

-- a dirtyable tag has the revision of its last dirtying, and how many dirtyings there were when it was over
pub data Tag : Type 0 where
  constant : Tag
  dirtyable : ℕ → ℕ → Tag
  combined : List Id → Tag

abbrev pub written : Tag → Option (ℕ × ℕ) × List Id
written constant = (None, [])
written (dirtyable r o) = (Some (r, o), [])
written (combined leads) = (None, (0, 0) ∷ leads)

abbrev pub read_tag : Option (ℕ × ℕ) → List Id → Tag
read_tag (Some p) xs = dirtyable p.0 p.1
read_tag None [] = constant
read_tag None (x ∷ xs) = combined xs

pub read_written : (t : Tag) → read_tag (written t).0 (written t).1 ≡ t
read_written constant = refl
read_written (dirtyable r o) = refl
read_written (combined leads) = refl

abbrev pub tag_code : Coded Tag
tag_code = code_by (Option (ℕ × ℕ) × List Id) (coded× (coded_option (coded× coded_ℕ coded_ℕ)) (coded_list (coded× coded_ℕ coded_ℕ))) written (λ p. read_tag p.0 p.1) read_written

-- the tags by id, the constant one, the clock, and how many dirtyings there were
pub record Tags : Type 0 where
  pub tags : Arena Tag
  pub still : Id
  pub clock : ℕ
  pub count : ℕ

abbrev pub tags_code : Coded Tags
tags_code =
    code_by (Arena Tag × (Id × (ℕ × ℕ))) (coded× (arena_code tag_code) (coded× (coded× coded_ℕ coded_ℕ) (coded× coded_ℕ coded_ℕ)))
    (λ t. (t.tags, (t.still, (t.clock, t.count)))) (λ p. record { tags = p.0; still = p.1.0; clock = p.1.1.0; count = p.1.1.1 }) (λ _. refl)

abbrev pub tag_at : Tags → Id → Option Tag
tag_at t i = named t.tags i

-- the revision of a dirtyable tag, and its order; 0 for all else
abbrev pub revision : Option Tag → ℕ
revision (Some (dirtyable r o)) = r
revision _ = 0

abbrev pub order : Option Tag → ℕ
order (Some (dirtyable r o)) = o
order _ = 0

-- the greatest of m and these
abbrev pub greatest_from : ℕ → List ℕ → ℕ
greatest_from m [] = m
greatest_from m (x ∷ xs) = greatest_from (max m x) xs

-- the dirtyable tags that one leads to: itself where it is dirtyable; an id that isn't live leads to none
abbrev pub leads_by : Id → Option Tag → List Id
leads_by i (Some (dirtyable r o)) = i ∷ []
leads_by i (Some (combined leads)) = leads
leads_by i _ = []

abbrev pub leads_of : Arena Tag → Id → List Id
leads_of a i = leads_by i (named a i)

-- the greatest that f gives for these tags
abbrev pub greatest_of : (Option Tag → ℕ) → Arena Tag → List Id → ℕ
greatest_of f a leads = greatest_from 0 (map (λ t. f (named a t)) leads)

-- what f gives for a tag, and for a combined one the greatest over its leads
abbrev pub value_by : (Option Tag → ℕ) → Arena Tag → Option Tag → ℕ
value_by f a (Some (combined leads)) = greatest_of f a leads
value_by f a t = f t

-- a tag's value, and the order of its last dirtying
abbrev pub value_of : Tags → Id → ℕ
value_of t i = value_by revision t.tags (named t.tags i)

abbrev pub order_of : Tags → Id → ℕ
order_of t i = value_by order t.tags (named t.tags i)

-- the same tags, each perhaps more than once
abbrev pub SameLeads : List Id → List Id → Type 0
SameLeads xs ys = (p : Id → Bool) → list_any p xs ≡ list_any p ys

abbrev pub is_dirtyable : Option Tag → Bool
is_dirtyable (Some (dirtyable r o)) = true
is_dirtyable _ = false

-- each of the counters, which have 64 bits, is below its last value
pub record HasRoom (t : Tags) : Type 0 where
  pub clock : t.clock + 1 < 2 ^ 64
  pub count : t.count + 1 < 2 ^ 64
  pub made : t.tags.made + 1 < 2 ^ 64

-- the tag is touched at the present revision, and the count of dirtyings rises
abbrev pub dirtied : Tags → Id → Tags
dirtied t i = record t { tags = with_value t.tags i (dirtyable t.clock (t.count + 1)); count = t.count + 1 }

-- nothing but the tags changes
pub record Rest (old new : Tags) : Type 0 where
  pub still : new.still ≡ old.still
  pub clock : new.clock ≡ old.clock
  pub count : new.count ≡ old.count

-- a combined tag is made, which leads to the dirtyable tags that the parts lead to
pub record Combines (old new : Tags) (id : Id) (parts : List Id) : Type 0 where
  pub leads : List Id
  pub gives : Gives old.tags new.tags id (combined leads)
  pub like : SameLeads leads (flat_map (leads_of old.tags) parts)
  pub rest : Rest old new

-- no live combined tag leads to i
abbrev pub IsUnled : Tags → Id → Type 0
IsUnled t i = (k : Id) (leads : List Id) → tag_at t k ≡ Some (combined leads) → list_any (same_id i) leads ≡ false

-- what a tag of a sound object keeps
abbrev pub IsRight : Arena Tag → ℕ → ℕ → Option Tag → Type 0
IsRight a clock count (Some (dirtyable r o)) = (r ≤ clock) × (o ≤ count)
IsRight a clock count (Some (combined leads)) = list_any (λ k. not (is_dirtyable (named a k))) leads ≡ false
IsRight a clock count _ = Unit {0}

-- revisions are not above the clock, orders not above the count, and combined tags lead to live dirtyable tags
pub record IsSound (t : Tags) : Type 0 where
  pub still : named t.tags t.still ≡ Some constant
  pub right : (i : Id) → IsRight t.tags t.clock t.count (named t.tags i)
