-- An update reads of a store what it has for new instances alone: at places where no instance of the tree stood.
use Rattle.std.proofs.Common.{◌≡◌, ◌+◌, ℕ, zero, suc, List, [], ◌∷◌, ◌++◌, map, Bool, true, false, Option, Some, None, cond, refl, sym, ap, ap₂, ◌∙◌, subst, inl, inr}
use Rattle.std.specs.Prelude.{if◌then◌else◌, unwrap_or, ◌&&◌}
use Rattle.std.specs.Str.{bytes_eq}
use Rattle.gl_base.specs.Texts.{Text}
use Rattle.gl_base.specs.Names.{named}
use Rattle.gl_value.specs.Value.{Values, undefined, count_value, plain}
use Rattle.gl_ast.specs.Template as t
use Rattle.gl_meaning.specs.App.{App}
use Rattle.gl_meaning.specs.Path.{PathStep, at, main, otherwise, items, item, into, slot, Path, path_eq}
use Rattle.gl_meaning.specs.Scope.{Scope}
use Rattle.gl_meaning.specs.Eval.{Held, Store, class_at, held_at, takes_first}
use Rattle.gl_meaning.specs.Known.{Among}
use Rattle.gl_meaning.specs.Laws.{Within}
use Rattle.gl_meaning.specs.Render.{Entry, entries, values_listed, Block, block_named}
use Rattle.gl_meaning.proofs.Equal.{both_left}
use Rattle.gl_meaning.proofs.Once.{Distinct, distinct}
use Rattle.gl_meaning.proofs.Under.{within_outer, steps_apart}
use Rattle.gl_plain.specs.Ids.{Id}
use Rattle.gl_plain.specs.State.{MScope, mscope, mnothing, mpassed, named_as, with_names, Thing, State}
use Rattle.gl_plain.specs.Naming.{by_number, dropped_as}
use Rattle.gl_plain.specs.Binding.{first_value}
use Rattle.gl_plain.specs.Live
use Rattle.gl_plain.specs.Live.{item_names, item_made, Live, Lives, Items, times_in, times_items, times_comment}
use Rattle.gl_plain.specs.Grow.{Arm, or_comment, ItemGrown, grow_entries, branch_from, unlisted_from, listed_from}
use Rattle.gl_plain.specs.Renew.{spot_pairs, reread, renew_attrs, renew_mods, give, Handle, times_handle, times_handles, is_of, with_front, taken, sync_one_as, sync_as, where_values, where_block, fresh_body_as, fresh_items_as, renew_as, renew_body_as, handles_as, renew_root_as}
use Rattle.gl_plain.specs.Stands.{WhereBlock, Stands, StandIn, ItemsStand, ListStands, ElseStands, BlockStands}
use Rattle.gl_plain.specs.Machine.{RootStands}
use Rattle.gl_plain.proofs.Apart.{Into, FromStep, StepsOf, into_more, later_apart}
use Rattle.gl_plain.proofs.Syncs.{path-Decides}
use Rattle.gl_naming.specs.Numbered.{number}
use Rattle.gl_naming.specs.Named.{NewInitial}
use Rattle.gl_naming.proofs.Handles as handles
use Rattle.gl_naming.proofs.Handles.{HandleAt, HandlesSit, handles_sit, all_tied, AllHold, taken_parted, step_same}
use Rattle.gl_naming.proofs.Choices.{where_list, where_else}
use Rattle.gl_naming.proofs.Swaps.{value_either, values}
use Rattle.gl_naming.proofs.Ties.{ties, ties_items, ties_in, own_tie, no_tie}
use Rattle.gl_naming.proofs.Sits.{step_of, StepIn, Sits, SitsItems, SitsIn, Placed, placed_one, placed_of, placed_items, placed_in, placed_more}
use Rattle.gl_naming.proofs.Exist.{of_owner}
use Rattle.gl_naming.proofs.Turned.{in_step, under, off_body, off_rest, first_step, further, other_step, main_otherwise, otherwise_main, items_otherwise, otherwise_items}
use Rattle.gl_naming.proofs.Stores.{Agree, Below, fresh_read, fresh_item_read, fresh_list_read}
use Rattle.gl_naming.specs.Renamed.{state_with}

module _ (app : App) (σ τ : Store) where
  abbrev own_of : Path → Live → List (ℕ × Path)
  own_of p l = ties own_tie no_tie p l

  abbrev own_items : Path → Items → List (ℕ × Path)
  own_items p is = ties_items own_tie no_tie p is

  abbrev own_in : Path → ℕ → Lives → List (ℕ × Path)
  own_in p i ls = ties_in own_tie no_tie p i ls

  placed : (p : Path) (i : ℕ) (ls : Lives) → SitsIn app p i ls → Placed app of_owner (λ j. Into p (FromStep i) j) (own_in p i ls)
  placed = placed_in app of_owner own_tie no_tie (λ i. (refl, tt)) (λ q z. tt) (λ i h. ((λ m. m), tt)) (λ q z. tt)

  placed_live : (p : Path) (l : Live) → Sits app p l → Placed app of_owner (λ j. Within p j) (own_of p l)
  placed_live = placed_of app of_owner own_tie no_tie (λ i. (refl, tt)) (λ q z. tt) (λ i h. ((λ m. m), tt)) (λ q z. tt)

  placed_list : (p : Path) (is : Items) → SitsItems app p is → Placed app of_owner (λ j. Into p (StepIn is) j) (own_items p is)
  placed_list = placed_items app of_owner own_tie no_tie (λ i. (refl, tt)) (λ q z. tt) (λ i h. ((λ m. m), tt)) (λ q z. tt)

  -- both have the same at each place with the property that isn't one of these instances'
  abbrev Off : (Path → Type 0) → List (ℕ × Path) → Type 0
  Off P xs = (q : Path) → P q → (Among q (values xs) → ⊥) → Agree app σ τ q

  one_at : (P : Path → Type 0) (v : Path) (xs : List (ℕ × Path)) → Placed app of_owner P xs → Among v (values xs) → P v
  one_at P v xs h m = placed_one app of_owner P v xs h m

  -- what is new in place of what goes
  off_below : (l o : PathStep) → (l ≡ o → ⊥) → (p : Path) (olds : List (ℕ × Path)) → Placed app of_owner (λ j. Within (o ∷ p) j) olds → Off (λ j. Within p j) olds → Below app σ τ (l ∷ p)
  off_below l o ne p olds w off q u = off q (within_outer l p q u) (λ m. other_step l o ne p q u (one_at (λ j. Within (o ∷ p) j) q olds w m))

  within_in : (l : PathStep) (p : Path) (ls : Lives) → SitsIn app (l ∷ p) 0 ls → Placed app of_owner (λ j. Within (l ∷ p) j) (own_in (l ∷ p) 0 ls)
  within_in l p ls s = placed_more app of_owner (λ j. Into (l ∷ p) (FromStep 0) j) (λ j. Within (l ∷ p) j) (in_step (l ∷ p) (FromStep 0)) (own_in (l ∷ p) 0 ls) (placed (l ∷ p) 0 ls s)

  flipped_read : (m : ℕ) (ms : MScope) (q : Path) (b : t.Body) (c : Id → ℕ) (st : State) → Below app σ τ q
      → or_comment (fresh_body_as by_number app σ m ms q b (dropped_as by_number c st)) ≡ or_comment (fresh_body_as by_number app τ m ms q b (dropped_as by_number c st))
  flipped_read m ms q b c st h = ap or_comment (fresh_read app σ τ m ms q b (dropped_as by_number c st) h)

  -- Old items

  abbrev own_handle : Path → Handle → List (ℕ × Path)
  own_handle p h = own_in (step_of h.spot ∷ p) 0 h.lives

  abbrev own_handles : Path → List Handle → List (ℕ × Path)
  own_handles p hs = all_tied app p (own_handle p) (λ h. Unit {0}) hs

  module _ (m : ℕ) (c : t.Body) where
    -- the same item, over the other store
    abbrev other : Handle → Handle
    other h = record { spot = h.spot; comment = h.comment; lives = h.lives; go = λ ms q st. renew_body_as by_number app τ m ms q 0 c h.lives st }

    others : (is : Items) → handles_as by_number app τ m c is ≡ map other (handles_as by_number app σ m c is)
    others Live.no_items = refl
    others (Live.item_live z k ls is) = ap (λ hs. record { spot = z; comment = k; lives = ls; go = λ ms q st. renew_body_as by_number app τ m ms q 0 c ls st } ∷ hs) (others is)

    times_other : (hs : List Handle) (q : Id) → times_handles q (map other hs) ≡ times_handles q hs
    times_other [] q = refl
    times_other (h ∷ hs) q = ap (λ n. times_handle q h + n) (times_other hs q)

    abbrev other_option : Option (Handle × List Handle) → Option (Handle × List Handle)
    other_option None = None
    other_option (Some y) = Some (other y.0, map other y.1)

    front_other : (h : Handle) (o : Option (Handle × List Handle)) → with_front (other h) (other_option o) ≡ other_option (with_front h o)
    front_other h None = refl
    front_other h (Some y) = refl

    taken_other : (x : Entry) (hs : List Handle) → taken x (map other hs) ≡ other_option (taken x hs)
    taken_other x [] = refl
    taken_other x (h ∷ hs) = ap (λ o. if is_of x h then Some (other h, map other hs) else with_front (other h) o) (taken_other x hs) ∙ by (is_of x h) where
      by : (b : Bool) → (if b then Some (other h, map other hs) else with_front (other h) (other_option (taken x hs))) ≡ other_option (if b then Some (h, hs) else with_front h (taken x hs))
      by true = refl
      by false = front_other h (taken x hs)

    own_handles_are : (p : Path) (is : Items) → own_handles p (handles_as by_number app σ m c is) ≡ own_items p is
    own_handles_are p Live.no_items = refl
    own_handles_are p (Live.item_live z k ls is) = ap (λ xs. own_in (step_of z ∷ p) 0 ls ++ xs) (own_handles_are p is)

    module _ (ns : List Text) (ms : MScope) (p : Path) where
      abbrev HandleReads : Handle → Type 0
      HandleReads h =
          (q : Path) (st : State) → q ≡ step_of h.spot ∷ p → Off (λ j. Into (step_of h.spot ∷ p) (FromStep 0) j) (own_in (step_of h.spot ∷ p) 0 h.lives)
          → let inside = with_names (item_names ns h.spot) ms in h.go inside q st ≡ renew_body_as by_number app τ m inside q 0 c h.lives st

      abbrev AllRead : List Handle → Type 0
      AllRead hs = AllHold app p (own_handle p) HandleReads hs

      handle_placed : (hs : List Handle) → HandlesSit app p hs → (v : Path) → Among v (values (own_handles p hs)) → Into p (HandleAt hs) v
      handle_placed [] s v w = absurd w
      handle_placed (h ∷ hs) s v w = elim (value_either v (own_in (step_of h.spot ∷ p) 0 h.lives) (own_handles p hs) w) [
        | inl u ↦ (step_of h.spot, inl refl, one_at (λ j. Within (step_of h.spot ∷ p) j) v (own_in (step_of h.spot ∷ p) 0 h.lives) (within_in (step_of h.spot) p h.lives s.1) u)
        | inr u ↦ into_more p (HandleAt hs) (HandleAt (h ∷ hs)) (λ l d. inr d) v (handle_placed hs s.2 v u)
      ]

      abbrev Taken : Entry → List Handle → Option (Handle × List Handle) → Type 0
      Taken x hs o = handles.Taken app p (own_handle p) HandleReads x hs o

      abbrev one_here : Path → Entry → State → ItemGrown
      one_here = fresh_items_as by_number app σ m ms ns c

      abbrev one_there : Path → Entry → State → ItemGrown
      one_there = fresh_items_as by_number app τ m ms ns c

      sync_reads : (xs : List Entry) (olds : List Handle) (st : State) → Distinct xs → AllRead olds → HandlesSit app p olds → Off (λ j. Into p (StepsOf xs) j) (own_handles p olds)
          → sync_as by_number one_here ns ms p xs olds st ≡ sync_as by_number one_there ns ms p xs (map other olds) st
      sync_reads [] olds st d all s off = ap (λ (u : Id → ℕ). (Live.no_items, dropped_as by_number u st)) (λ j q. sym (times_other olds q) j)
      sync_reads (x ∷ xs) olds st d all s off =
          by (taken x olds) (taken_parted app p (own_handle p) HandleReads x olds all s) (λ olds' st' all' s' off'. sync_reads xs olds' st' d.1 all' s' off')
          ∙ sym (ap (λ k. let h = sync_one_as by_number one_there ns ms (item x.key x.occurrence ∷ p) x (map other olds) k st in let r = sync_as by_number one_there ns ms p xs h.1 h.0.arm.state in
          (Live.item_live h.0.spot h.0.arm.comment h.0.arm.lives r.0, r.1)) (taken_other x olds)) where
            by : (k : Option (Handle × List Handle)) → Taken x olds k
                → ((olds : List Handle) (st : State) → AllRead olds → HandlesSit app p olds → Off (λ j. Into p (StepsOf xs) j) (own_handles p olds)
                → sync_as by_number one_here ns ms p xs olds st ≡ sync_as by_number one_there ns ms p xs (map other olds) st)
                → let h = sync_one_as by_number one_here ns ms (item x.key x.occurrence ∷ p) x olds k st in
                let r = sync_as by_number one_here ns ms p xs h.1 h.0.arm.state in
                let h' = sync_one_as by_number one_there ns ms (item x.key x.occurrence ∷ p) x (map other olds) (other_option k) st in
                let r' = sync_as by_number one_there ns ms p xs h'.1 h'.0.arm.state in
                ◌≡◌ {A = Items × State} (Live.item_live h.0.spot h.0.arm.comment h.0.arm.lives r.0, r.1) (Live.item_live h'.0.spot h'.0.arm.comment h'.0.arm.lives r'.0, r'.1)
            by None k rec =
                let l0 = item x.key x.occurrence in
                let q = l0 ∷ p in
                let g = one_there q x st in
                ap (λ (y : ItemGrown). let r = sync_as by_number one_here ns ms p xs olds y.arm.state in (Live.item_live y.spot y.arm.comment y.arm.lives r.0, r.1))
                (fresh_item_read app σ τ m ms ns c q x st (λ v w. off v (l0, inl refl, w) (λ a. let i = handle_placed olds s v a in k (subst (HandleAt olds) (steps_apart i.0 l0 p v i.2 w) i.1))))
                ∙ ap (λ (r : Items × State). (Live.item_live g.spot g.arm.comment g.arm.lives r.0, r.1)) (rec olds g.arm.state all s (λ v w a. off v (w.0, inr w.1, w.2) a))
            by (Some y) k rec =
                let l0 = step_of y.0.spot in
                let q0 = item x.key x.occurrence ∷ p in
                let e = step_same x y.0 k.is in
                let own = own_in (l0 ∷ p) 0 y.0.lives in
                let inside = with_names (item_names ns y.0.spot) ms in
                let st2 = give y.0.spot.index (number y.0.spot.index) (count_value x.index) (give y.0.spot.value (number y.0.spot.value) x.value st) in
                let r = renew_body_as by_number app τ m inside q0 0 c y.0.lives st2 in
                let at_own : Off (λ j. Into (l0 ∷ p) (FromStep 0) j) own = (λ v w a. let u = in_step (l0 ∷ p) (FromStep 0) v w in
                off v (l0, inl (sym e), u) (λ b. elim (k.either v b) [ inl z ↦ a z | inr z ↦ let i = handle_placed y.1 k.rest_sits v z in k.off (subst (HandleAt y.1) (steps_apart i.0 l0 p v i.2 u) i.1) ])) in
                ap (λ (z : Lives × State). let u = sync_as by_number one_here ns ms p xs y.1 z.1 in (Live.item_live y.0.spot y.0.comment z.0 u.0, u.1)) (k.holds q0 st2 (ap (λ l. l ∷ p) e) at_own)
                ∙ ap (λ (u : Items × State). (Live.item_live y.0.spot y.0.comment r.0 u.0, u.1))
                (rec y.1 r.1 k.others k.rest_sits (λ v w a. off v (w.0, inr w.1, w.2)
                (λ b. elim (k.either v b) [ inl z ↦ later_apart x.key x.occurrence xs d.0 w.0 (steps_apart w.0 l0 p v w.2 (one_at (λ j. Within (l0 ∷ p) j) v own (within_in l0 p y.0.lives k.sits) z) ∙ sym e) w.1 | inr z ↦ a z ])))

  -- Statements, where the tree stands for what is rendered over some stores

  module _ (look : Id → Option Thing) (ρ ω : Store) where
    block_reads : (o : Option Block) (ls : Lives) (st : State) (F G : Block → Lives × State) (P : Block → Type 0) (Q : Type 0) → ((c : Block) → P c → F c ≡ G c) → WhereBlock o P Q → where_block o F (ls, st) ≡ where_block o G (ls, st)
    block_reads None ls st F G P Q k h = refl
    block_reads (Some c) ls st F G P Q k h = k c h

    mutual
      stmt_reads : (m b : ℕ) (v : Scope) (ms : MScope) (p : Path) (x : t.Stmt) (l : Live) (st : State) → Stands app ρ ω look m b v ms p x l → Sits app p l → Off (λ j. Within p j) (own_of p l)
          → renew_as by_number app σ m ms p x l st ≡ renew_as by_number app τ m ms p x l st
      stmt_reads m b v ms p (t.text_stmt z) (Live.still n) st h s off = refl
      stmt_reads m b v ms p (t.comment_stmt z) (Live.still n) st h s off = refl
      stmt_reads m b v ms p (t.put e) (Live.put_live n z) st h s off = refl
      stmt_reads m b v ms p (t.element tag ps c) (Live.element_live n made xs zs ls) st h s off =
          ap (λ (r : Lives × State). (Live.element_live n made xs zs r.0, renew_mods zs r.1)) (body_reads m b v ms p 0 c ls (renew_attrs n xs st) h.3 s (λ q w a. off q (in_step p (FromStep 0) q w) a))
      stmt_reads m b v ms p (t.if_stmt e unless c d) (Live.branch_live z true k ls) st h s off =
          let ca : Id → ℕ = λ q. times_in q ls + times_comment q k in
          let st1 = reread z.ref st in
          ap₂ (λ (r : Lives × State) (g : Arm). cond {A = Live × State} (takes_first unless (first_value (spot_pairs st1 z.ref))) (branch_from z true (record { comment = k; lives = r.0; state = r.1 })) (branch_from z false g))
          (body_reads m b v ms (main ∷ p) 0 c ls st1 h.3 s (λ q w a. off q (under main p (FromStep 0) q w) a))
          (flipped_read m ms (otherwise ∷ p) d ca st1 (off_below otherwise main otherwise_main p (own_in (main ∷ p) 0 ls) (within_in main p ls s) off))
      stmt_reads m b v ms p (t.if_stmt e unless c d) (Live.branch_live z false k ls) st h s off =
          let ca : Id → ℕ = λ q. times_in q ls + times_comment q k in
          let st1 = reread z.ref st in
          ap₂ (λ (f : Arm) (r : Lives × State). cond {A = Live × State} (takes_first unless (first_value (spot_pairs st1 z.ref))) (branch_from z true f) (branch_from z false (record { comment = k; lives = r.0; state = r.1 })))
          (flipped_read m ms (main ∷ p) c ca st1 (off_below main otherwise main_otherwise p (own_in (otherwise ∷ p) 0 ls) (within_in otherwise p ls s) off))
          (body_reads m b v ms (otherwise ∷ p) 0 d ls st1 h.3 s (λ q w a. off q (under otherwise p (FromStep 0) q w) a))
      stmt_reads m b v ms p (t.each e key ns c d) (Live.listed z is) st h s off =
          let ca : Id → ℕ = λ q. times_items q is in
          let hs = handles_as by_number app σ m c is in
          let st1 = reread z.ref st in
          let q = items ∷ p in
          let w = placed_more app of_owner (λ j. Into q (StepIn is) j) (λ j. Within q j) (in_step q (StepIn is)) (own_items q is) (placed_list q is s) in
          let all = where_list (AllRead m c ns ms q hs) _ (ListStands app ρ ω look m b v ms p key ns c is) (λ us i. items_read m b v ms q ns c (entries key 0 [] us) is i s) h.1 in
          let here : (us : Values Path) → Items × State = λ us. sync_as by_number (fresh_items_as by_number app σ m ms ns c) ns ms q (entries key 0 [] us) hs st1 in
          let there : (us : Values Path) → Items × State = λ us. sync_as by_number (fresh_items_as by_number app τ m ms ns c) ns ms q (entries key 0 [] us) (handles_as by_number app τ m c is) st1 in
          let same : (us : Values Path) → here us ≡ there us =
          (λ us. sync_reads m c ns ms q (entries key 0 [] us) hs st1 (distinct key 0 [] us) all (handles_sit app q σ m c is s)
          (λ j u a. off j (under items p (StepsOf (entries key 0 [] us)) j u) (λ i. a (subst (λ xs. Among j (values xs)) (sym (own_handles_are m c q is)) i)))
          ∙ ap (λ ks. sync_as by_number (fresh_items_as by_number app τ m ms ns c) ns ms q (entries key 0 [] us) ks st1) (sym (others m c is))) in
          let rest = flipped_read m ms (otherwise ∷ p) d ca st1 (off_below otherwise items otherwise_items p (own_items q is) w off) in
          (λ j. where_values (values_listed (first_value (spot_pairs st1 z.ref))) (λ us. listed_from z (same us j)) (unlisted_from z (rest j)))
      stmt_reads m b v ms p (t.each e key ns c d) (Live.unlisted z k ls) st h s off =
          let ca : Id → ℕ = λ q. times_in q ls + times_comment q k in
          let st1 = reread z.ref st in
          let inside = where_else (StandIn app ρ ω look m b v ms (otherwise ∷ p) 0 d ls) _ (ElseStands app ρ ω look m b v ms p d k ls) (λ i. i.1) h.1 in
          let new = off_below items otherwise items_otherwise p (own_in (otherwise ∷ p) 0 ls) (within_in otherwise p ls s) off in
          let here : (us : Values Path) → Items × State = λ us. grow_entries (fresh_items_as by_number app σ m ms ns c) (items ∷ p) (entries key 0 [] us) (dropped_as by_number ca st1) in
          let there : (us : Values Path) → Items × State = λ us. grow_entries (fresh_items_as by_number app τ m ms ns c) (items ∷ p) (entries key 0 [] us) (dropped_as by_number ca st1) in
          let same : (us : Values Path) → here us ≡ there us = (λ us. fresh_list_read app σ τ m ms ns c (items ∷ p) (entries key 0 [] us) (dropped_as by_number ca st1) new) in
          let rest = body_reads m b v ms (otherwise ∷ p) 0 d ls st1 inside s (λ q w a. off q (under otherwise p (FromStep 0) q w) a) in
          (λ j. where_values (values_listed (first_value (spot_pairs st1 z.ref))) (λ us. listed_from z (same us j)) (unlisted_from z (record { comment = k; lives = (rest j).0; state = (rest j).1 })))
      stmt_reads m b v ms p (t.let_stmt es ns c) (Live.let_live made rs ls) st h s off =
          ap (λ (r : Lives × State). (Live.let_live made rs r.0, r.1)) (body_reads m _ _ (with_names (named_as ns rs) ms) (main ∷ p) 0 c ls st h.3 s (λ q w a. off q (under main p (FromStep 0) q w) a))
      stmt_reads (suc m) b v ms p (t.component_stmt c ps given bs) (Live.component_live i made gm args (Some k) ls) st h s off =
          let q = into c ∷ p in
          let inside : Off (λ j. Into i.path (FromStep 0) j) (own_in i.path 0 ls) = (λ j w a. off j (s.0 j (in_step i.path (FromStep 0) j w)) (λ u. elim u [ inl e ↦ off_body i.path j e w | inr e ↦ a e ])) in
          ap (λ (r : Lives × State). (Live.component_live i made gm args (Some k) r.0, r.1))
          (body_reads m _ _ (mscope i args [] (mpassed k ps bs ms)) q 0 (class_at app q).template ls st h.7 (subst (λ j. SitsIn app j 0 ls) h.2 s.2) (subst (λ d. Off (λ j. Into d (FromStep 0) j) (own_in d 0 ls)) h.2 inside))
      stmt_reads zero b v ms p (t.component_stmt c ps given bs) (Live.deep_live q) st h s off = refl
      stmt_reads m b v (mscope i a l mnothing) p (t.yield es n) (Live.yield_live k made rs ls) st h s off = refl
      stmt_reads m b v (mscope i a l (mpassed kb ps bs ms)) p (t.yield es n) (Live.yield_live k made rs ls) st h s off =
          let q = slot n ∷ p in
          let s' = subst (λ j. SitsIn app (slot j ∷ p) 0 ls) h.0 s in
          let off' = subst (λ j. Off (λ d. Within p d) (own_in (slot j ∷ p) 0 ls)) h.0 off in
          ap (λ (r : Lives × State). (Live.yield_live k made rs r.0, r.1))
          (block_reads (block_named n bs) ls st (λ c. renew_body_as by_number app σ m (with_names (named_as c.params rs) ms) q 0 c.body ls st) (λ c. renew_body_as by_number app τ m (with_names (named_as c.params rs) ms) q 0 c.body ls st)
          (BlockStands app ρ ω look m b v (mscope i a l (mpassed kb ps bs ms)) p es n made rs ls) (ls ≡ Live.no_lives)
          (λ c j. body_reads m _ _ (with_names (named_as c.params rs) ms) q 0 c.body ls st j.3 s' (λ d w u. off' d (under (slot n) p (FromStep 0) d w) u)) h.1)
      stmt_reads m b v ms p _ _ st h s off = absurd h

      body_reads : (m b : ℕ) (v : Scope) (ms : MScope) (p : Path) (i : ℕ) (c : t.Body) (ls : Lives) (st : State) → StandIn app ρ ω look m b v ms p i c ls → SitsIn app p i ls → Off (λ j. Into p (FromStep i) j) (own_in p i ls)
          → renew_body_as by_number app σ m ms p i c ls st ≡ renew_body_as by_number app τ m ms p i c ls st
      body_reads m b v ms p i t.end Live.no_lives st h s off = refl
      body_reads m b v ms p i (t.stmt x c) (Live.live_and l ls) st h s off =
          let r = renew_as by_number app τ m ms (at i ∷ p) x l st in
          let own = own_of (at i ∷ p) l in let rest = own_in p (suc i) ls in
          ap (λ (y : Live × State). let z = renew_body_as by_number app σ m ms p (suc i) c ls y.1 in (Live.live_and y.0 z.0, z.1))
          (stmt_reads m b v ms (at i ∷ p) x l st h.0 s.0 (λ q w a. off q (first_step p i q w)
          (λ u. elim (value_either q own rest u) [ inl e ↦ a e | inr e ↦ off_rest p i q w (one_at (λ j. Into p (FromStep (suc i)) j) q rest (placed p (suc i) ls s.1) e) ])))
          ∙ ap (λ (z : Lives × State). (Live.live_and r.0 z.0, z.1))
          (body_reads m b v ms p (suc i) c ls r.1 h.1 s.1 (λ q w a. off q (into_more p (FromStep (suc i)) (FromStep i) (further i) q w)
          (λ u. elim (value_either q own rest u) [ inl e ↦ off_rest p i q (one_at (λ j. Within (at i ∷ p) j) q own (placed_live (at i ∷ p) l s.0) e) w | inr e ↦ a e ])))
      body_reads m b v ms p i _ _ st h s off = absurd h

      items_read : (m b : ℕ) (v : Scope) (ms : MScope) (p : Path) (ns : List Text) (c : t.Body) (xs : List Entry) (is : Items) → ItemsStand app ρ ω look m b v ms p ns c xs is → SitsItems app p is
          → AllRead m c ns ms p (handles_as by_number app σ m c is)
      items_read m b v ms p ns c [] Live.no_items h s = tt
      items_read m b v ms p ns c (x ∷ xs) (Live.item_live z k ls is) h s =
          let q0 = item x.key x.occurrence ∷ p in
          let inside = with_names (item_names ns z) ms in
          let same : step_of z ∷ p ≡ q0 = ap₂ (λ a n. item a n ∷ p) h.0.0 h.0.1 in (
            (λ j st e off.
                subst (λ d. renew_body_as by_number app σ m inside d 0 c ls st ≡ renew_body_as by_number app τ m inside d 0 c ls st) (sym (e ∙ same))
                (body_reads m _ _ inside q0 0 c ls st h.4 (subst (λ d. SitsIn app d 0 ls) same s.1) (subst (λ d. Off (λ y. Into d (FromStep 0) y) (own_in d 0 ls)) same off))),
            items_read m b v ms p ns c xs is h.5 s.2,
          )
      items_read m b v ms p ns c _ _ h s = absurd h

    root_reads : (m : ℕ) (l : Live) (st : State) → RootStands app ρ ω look m l → Sits app [] l → ((q : Path) → (Among q (values (own_of [] l)) → ⊥) → Agree app σ τ q) → renew_root_as by_number m app σ l st ≡ renew_root_as by_number m app τ l st
    root_reads (suc m) (Live.component_live i made gm args None ls) st h s off =
        let inside : Off (λ j. Into i.path (FromStep 0) j) (own_in i.path 0 ls) = (λ j w a. off j (λ u. elim u [ inl e ↦ off_body i.path j e w | inr e ↦ a e ])) in
        ap (λ (r : Lives × State). (Live.component_live i made gm args None r.0, r.1))
        (body_reads m _ _ (mscope i args [] mnothing) [] 0 (class_at app []).template ls st h.5 (subst (λ j. SitsIn app j 0 ls) h.1 s.2) (subst (λ d. Off (λ j. Into d (FromStep 0) j) (own_in d 0 ls)) h.1 inside))
    root_reads zero (Live.deep_live q) st h s off = refl
    root_reads _ _ st h s off = absurd h

-- a store that has nothing for an instance
held_none : (q : Path) (x : Text) (ρ : Store) → ((h : Held) → Among h ρ → h.instance ≡ q → ⊥) → held_at q x ρ ≡ None
held_none q x [] none = refl
held_none q x (h ∷ hs) none = by (path_eq q h.instance && bytes_eq x h.field) refl (held_none q x hs (λ k m e. none k (inr m) e)) where
  by : (b : Bool) → (path_eq q h.instance && bytes_eq x h.field) ≡ b → held_at q x hs ≡ None → (if b then Some h.value else held_at q x hs) ≡ None
  by true e r = absurd (none h (inl refl) (sym ((path-Decides q h.instance).0 (both_left (path_eq q h.instance) _ e))))
  by false e r = r

pub new_initial : NewInitial
new_initial app σ τ st l n g ρ own =
    root_reads app [] ρ (state_with n.owner n.source st.touched st).look σ τ app.limit l st (n.stands st.touched).stands g.sits
    (λ q off x. ap (λ o. unwrap_or o (plain (unwrap_or (named x (class_at app q).fields) undefined))) (sym (held_none q x ρ (λ h m e. off (subst (λ j. Among j (values (own_of app [] ρ [] l))) e (own h m))))))
