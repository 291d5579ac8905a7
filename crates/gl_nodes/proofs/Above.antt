-- The parent that a node links to, which no write of neighbours changes, and what it says of where the node stands.
use Rattle.std.proofs.Common.{is_some, ◌≡◌, ◌<◌, true, false, Option, Some, None, option_map, IsSome, refl, ap, ◌∙◌, inl, inr, arith}
use Rattle.std.specs.Prelude.{if◌then◌else◌}
use Rattle.std.proofs.lemmas.Bool.{cases_lt}
use Rattle.gl_arena.specs.Id.{Id, same_id}
use Rattle.gl_arena.proofs.Ids.{id_cases}
use Rattle.gl_nodes.specs.Forest.{Forest, end, tree, times}
use Rattle.gl_nodes.specs.Links.{Links, Look, Linked, amend, with_first, with_last, with_next, with_prev, join, before_in, attached, detached, parent_of, prev_of, next_of}
use Rattle.gl_nodes.proofs.Counts.{hit-other}

pub amend-parent : (w : Links → Links) (i : Id) (l : Look) → ((n : Links) → (w n).parent ≡ n.parent) → (x : Id) → parent_of (amend w i l x) ≡ parent_of (l x)
unfolding amend
amend-parent w i l same x = elim (same_id x i) as (λ b. parent_of (if b then option_map w (l x) else l x) ≡ parent_of (l x)) [ true ↦ by_case (l x) | false ↦ refl ]
  where
    by_case : (o : Option Links) → parent_of (option_map w o) ≡ parent_of o
    by_case None = refl
    by_case (Some n) = same n

join-parent : (p : Id) (left right : Option Id) (l : Look) (x : Id) → parent_of (join p left right l x) ≡ parent_of (l x)
join-parent p None None l x = amend-parent (with_last None) p (amend (with_first None) p l) (λ n. refl) x ∙ amend-parent (with_first None) p l (λ n. refl) x
join-parent p None (Some r) l x = amend-parent (with_prev None) r (amend (with_first (Some r)) p l) (λ n. refl) x ∙ amend-parent (with_first (Some r)) p l (λ n. refl) x
join-parent p (Some q) None l x = amend-parent (with_last (Some q)) p (amend (with_next None) q l) (λ n. refl) x ∙ amend-parent (with_next None) q l (λ n. refl) x
join-parent p (Some q) (Some r) l x = amend-parent (with_prev (Some q)) r (amend (with_next (Some r)) q l) (λ n. refl) x ∙ amend-parent (with_next (Some r)) q l (λ n. refl) x

pub attached-parent : (p x y : Id) (next : Option Id) (l : Look) (z : Id) → parent_of (attached p x y next l z) ≡ parent_of (l z)
attached-parent p x y next l z = join-parent p (Some y) next (join p (before_in l p next) (Some x) l) z ∙ join-parent p (before_in l p next) (Some x) l z

pub detached-parent : (p x y : Id) (l : Look) (z : Id) → parent_of (detached p x y l z) ≡ parent_of (l z)
detached-parent p x y l z = join-parent p (prev_of (l x)) (next_of (l y)) l z

-- a node of a run links to a parent
pub linked_above : (l : Look) (p : Id) (b : Option Id) (f : Forest) (a : Option Id) (x : Id) → Linked l (Some p) b f a → 0 < times x f → IsSome (parent_of (l x))
linked_above l p b end a x h lt = absurd (omega (arith, lt))
linked_above l p b (tree i k r) a x h lt = elim (id_cases x i) [
  | inl e ↦ ap (λ j. is_some (parent_of (l j))) e ∙ ap (λ o. is_some (parent_of o)) h.0
  | inr ne ↦
      let off = hit-other x i ne in
      elim (cases_lt 0 (times x k)) [
        | inl on ↦ linked_above l i None k None x h.1 on
        | inr off_k ↦ linked_above l p (Some i) r a x h.2 (omega (arith, off, off_k, lt))
      ]
]
