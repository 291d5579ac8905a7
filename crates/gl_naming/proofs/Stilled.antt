-- What is left by renaming: where the names of a tree are left, all that stands in it is.
use Rattle.std.proofs.Common.{◌≡◌, ℕ, suc, List, [], ◌∷◌, ◌++◌, Bool, true, false, Option, Some, None, refl, sym, ap, subst, inl, inr, ◌⊎◌}
use Rattle.std.specs.Prelude.{if◌then◌else◌}
use Rattle.std.specs.Str.{bytes_eq}
use Rattle.gl_base.specs.Texts.{Text}
use Rattle.gl_base.specs.Names.{named}
use Rattle.gl_ast.specs.Template.{Plain, Expr}
use Rattle.gl_meaning.specs.App.{App}
use Rattle.gl_meaning.specs.Path.{at, main, otherwise, items, item, slot, Path}
use Rattle.gl_meaning.specs.Scope.{Source, cell, item_value, item_index}
use Rattle.gl_meaning.specs.Eval.{class_at, field_member, getter_or_action, field_or, member_of}
use Rattle.gl_meaning.specs.Known.{Among}
use Rattle.gl_meaning.specs.Order.{names_of}
use Rattle.gl_meaning.proofs.Equal.{text_means}
use Rattle.gl_meaning.proofs.Pieces.{among_left, among_right}
use Rattle.gl_plain.specs.State.{Names}
use Rattle.gl_plain.specs.Live.{Live, still, put_live, element_live, branch_live, listed, unlisted, let_live, component_live, yield_live, deep_live, Items, no_items, item_live, Lives, no_lives, live_and}
use Rattle.gl_naming.specs.Moved.{Still, StillItems, StillIn}
use Rattle.gl_naming.proofs.Ties.{ties, ties_items, ties_in, own_tie, no_tie, cell_ties, cells_tie, item_tie}
use Rattle.gl_naming.proofs.Sits.{Sits, SitsItems, SitsIn}

-- A field has a name among the fields' names.

named_among : (x : Text) (fs : List (Text × Plain)) (v : Plain) → named x fs ≡ Some v → Among x (names_of fs)
named_among x [] v e = absurd cc
named_among x (y ∷ fs) v e = by (bytes_eq x y.0) refl (named_among x fs v) e where
  by : (b : Bool) → bytes_eq x y.0 ≡ b → (named x fs ≡ Some v → Among x (names_of fs)) → (if b then Some y.1 else named x fs) ≡ Some v → (x ≡ y.0) ⊎ Among x (names_of fs)
  by true s rec d = inl (text_means x y.0 s)
  by false s rec d = inr (rec d)

no_field : (o : Option Expr) → getter_or_action o ≡ field_member → ⊥
no_field (Some e) d = cc
no_field None d = cc

field_among : (app : App) (q : Path) (x : Text) → member_of (class_at app q) x ≡ field_member → Among x (names_of (class_at app q).fields)
field_among app q x e = by (named x (class_at app q).fields) refl e where
  by : (o : Option Plain) → named x (class_at app q).fields ≡ o → field_or o (getter_or_action (named x (class_at app q).getters)) ≡ field_member → Among x (names_of (class_at app q).fields)
  by (Some v) s d = named_among x (class_at app q).fields v s
  by None s d = absurd (no_field (named x (class_at app q).getters) d)

cell_among : (p : Path) (x : Text) (cs : Names) → Among x (names_of cs) → (r : ℕ) × Among (r, cell p x) (cell_ties p cs)
cell_among p x [] m = absurd m
cell_among p x (c ∷ cs) (inl e) = (c.1, inl (ap (λ y. (c.1, cell p y)) e))
cell_among p x (c ∷ cs) (inr m) = let k = cell_among p x cs m in (k.0, inr k.1)

module _ (app : App) (h : Path → Path) (k : Source → Source) where
  abbrev OwnersLeft : List (ℕ × Path) → Type 0
  OwnersLeft xs = (x : ℕ × Path) → Among x xs → h x.1 ≡ x.1

  abbrev SourcesLeft : List (ℕ × Source) → Type 0
  SourcesLeft xs = (x : ℕ × Source) → Among x xs → k x.1 ≡ x.1

  mutual
    pub stilled : (p : Path) (l : Live) → Sits app p l → OwnersLeft (ties own_tie no_tie p l) → SourcesLeft (ties cells_tie item_tie p l) → Still app h k p l
    stilled p (still n) s o c = tt
    stilled p (put_live n z) s o c = tt
    stilled p (element_live n made xs zs ls) s o c = stilled_in p 0 ls s o c
    stilled p (branch_live z true u ls) s o c = stilled_in (main ∷ p) 0 ls s o c
    stilled p (branch_live z false u ls) s o c = stilled_in (otherwise ∷ p) 0 ls s o c
    stilled p (listed z is) s o c = stilled_items (items ∷ p) is s o c
    stilled p (unlisted z u ls) s o c = stilled_in (otherwise ∷ p) 0 ls s o c
    stilled p (let_live made rs ls) s o c = stilled_in (main ∷ p) 0 ls s o c
    stilled p (component_live i made gm args u ls) s o c = (
      (
        o (i.id, i.path) (inl refl),
        λ x e. let m = cell_among i.path x i.cells (subst (Among x) (sym s.1) (field_among app i.path x e)) in
            c (m.0, cell i.path x) (among_left (m.0, cell i.path x) (cells_tie i) (ties_in cells_tie item_tie i.path 0 ls) m.1),
      ),
      stilled_in i.path 0 ls s.2 (λ x m. o x (inr m)) (λ x m. c x (among_right x (cells_tie i) (ties_in cells_tie item_tie i.path 0 ls) m)),
    )
    stilled p (yield_live n made rs ls) s o c = stilled_in (slot n ∷ p) 0 ls s o c
    stilled p (deep_live q) s o c = tt

    stilled_items : (p : Path) (is : Items) → SitsItems app p is → OwnersLeft (ties_items own_tie no_tie p is) → SourcesLeft (ties_items cells_tie item_tie p is) → StillItems app h k p is
    stilled_items p no_items s o c = tt
    stilled_items p (item_live z u ls is) s o c =
        let q = item z.key z.occurrence ∷ p in
        let own = ties_in own_tie no_tie q 0 ls in
        let inside = item_tie q z ++ ties_in cells_tie item_tie q 0 ls in
        let rest = ties_items cells_tie item_tie p is in (
          (c (z.value, item_value q) (inl refl), c (z.index, item_index q) (inr (inl refl))),
          stilled_in q 0 ls s.1 (λ x m. o x (among_left x own (ties_items own_tie no_tie p is) m)) (λ x m. c x (among_left x inside rest (inr (inr m)))),
          stilled_items p is s.2 (λ x m. o x (among_right x own (ties_items own_tie no_tie p is) m)) (λ x m. c x (among_right x inside rest m)),
        )

    stilled_in : (p : Path) (i : ℕ) (ls : Lives) → SitsIn app p i ls → OwnersLeft (ties_in own_tie no_tie p i ls) → SourcesLeft (ties_in cells_tie item_tie p i ls) → StillIn app h k p i ls
    stilled_in p i no_lives s o c = tt
    stilled_in p i (live_and l ls) s o c =
        let a = ties own_tie no_tie (at i ∷ p) l in let a' = ties_in own_tie no_tie p (suc i) ls in
        let b = ties cells_tie item_tie (at i ∷ p) l in let b' = ties_in cells_tie item_tie p (suc i) ls in (
          stilled (at i ∷ p) l s.0 (λ x m. o x (among_left x a a' m)) (λ x m. c x (among_left x b b' m)),
          stilled_in p (suc i) ls s.1 (λ x m. o x (among_right x a a' m)) (λ x m. c x (among_right x b b' m)),
        )
