-- The lines of what goes are those of the log.
use Rattle.std.proofs.Common.{◌≡◌, ℕ, zero, suc, List, [], ◌∷◌, ◌++◌, Bool, true, false, cond, Option, Some, None, refl, sym, ap, ap₂, ◌∙◌, subst, inl}
use Rattle.std.specs.Prelude.{flat_map, filter, not, ◌&&◌, unwrap_or, codes, decimal}
use Rattle.std.proofs.lemmas.List.{append-nil, append_assoc}
use Rattle.gl_base.specs.Texts.{Text}
use Rattle.gl_value.specs.Value.{Values, no_values, value}
use Rattle.gl_ast.specs.Template as t
use Rattle.gl_meaning.specs.App.{App}
use Rattle.gl_meaning.specs.Path.{at, main, otherwise, items, item, into, slot, empty, attribute_at, modifier_at, Path, has_path, at_path}
use Rattle.gl_meaning.specs.Scope.{Scope}
use Rattle.gl_meaning.specs.Eval.{Store, class_at}
use Rattle.gl_meaning.specs.Parts.{Modifier, WrittenModifier}
use Rattle.gl_meaning.specs.Render.{Piece, element_node, component, branch, item_region, position, Forest, no_pieces, piece, single, join, forest_of, Entry, Block, block_named}
use Rattle.gl_meaning.specs.Changes.{Numbers, Sets, instances}
use Rattle.gl_meaning.specs.Print.{line, last_in, children_first, number_text, modifier_paths, destroy_lines}
use Rattle.gl_meaning.specs.Known.{Among}
use Rattle.gl_meaning.proofs.Pieces.{among_left, among_right}
use Rattle.gl_plain.specs.Ids.{Id, ref, node, instance_id, modifier_id}
use Rattle.gl_plain.specs.State.{Inst, MScope, mscope, mnothing, mpassed, passed_in, mslots, mwriter, named_as, with_names, content, modifier_row, Installed, Thing, held_value}
use Rattle.gl_plain.specs.Live
use Rattle.gl_plain.specs.Live.{Live, Lives, Items, AttrSpot, ModSpot, ItemSpot, item_names}
use Rattle.gl_plain.specs.Renew.{where_block}
use Rattle.gl_plain.specs.Drawn.{leaf_piece, tag_of, attrs_of, modifier_name, pairs_at, drawn_comment, drawn_attrs, drawn_modifiers, drawn_places, drawn_scope, drawn, drawn_items, drawn_in, drawn_app}
use Rattle.gl_plain.specs.Stands.{WhereValues, WhereBlock, ModsStand, Stands, StandIn, ItemsStand, BlockStands, ListStands, ElseStands, mods_by, tail_of}
use Rattle.gl_plain.specs.Machine.{RootStands}
use Rattle.gl_machine.specs.Rows.{a_node, an_instance, a_modifier, Row, row_of, comment_rows, attr_rows, mod_spot_rows, mod_rows, tag_rows, instance_rows, rows, rows_items, rows_in}
use Rattle.gl_machine.specs.Gone.{Gone, gone_modifier, gone_instance, gone_mods, gone_inst, gone, gone_items, gone_in, modifier_gone, gone_line}
use Rattle.gl_machine.proofs.RowsOf.{arm_rows, item_rows}
use Rattle.gl_machine.proofs.Sits.{item_step}

flat_append : {A B : Type 0} (f : A → List B) (xs ys : List A) → flat_map f (xs ++ ys) ≡ flat_map f xs ++ flat_map f ys
flat_append f [] ys = refl
flat_append f (x ∷ xs) ys = ap (λ zs. f x ++ zs) (flat_append f xs ys) ∙ sym (append_assoc (f x) (flat_map f xs) (flat_map f ys))

first_join : (f g : Forest) → children_first (join f g) ≡ children_first f ++ children_first g
first_join no_pieces g = refl
first_join (piece q f) g = ap (λ xs. last_in q ++ xs) (first_join f g) ∙ sym (append_assoc (last_in q) (children_first f) (children_first g))

no_line : (t : Text) (d : Bool) → cond (d && false) t [] ≡ []
no_line t true = refl
no_line t false = refl

one_line : (t : Text) (d : Bool) → cond (d && true) t [] ≡ cond d t [] ++ []
one_line t true = sym (append-nil t)
one_line t false = refl

-- Of the old rendering's app, the old and the new rendering, the numbers from before, and what lives on.
module _ (app : App) (old new : Forest) (sets : Sets) (before after : Numbers) (num : ℕ → ℕ) (look0 look : Id → Option Thing) (lives_on : Id → Bool) where
  abbrev Lines : Piece → Text
  Lines q = destroy_lines app old new sets before after q

  abbrev Told : List Gone → Text
  Told gs = flat_map (gone_line app look num) gs

  -- what is known of some rows
  pub record Tells (xs : List Row) : Type 0 where
    pub modifiers : (x : Row) → Among x xs → x.role ≡ a_modifier → (lives_on x.id ≡ has_path x.path (modifier_paths new)) × (look x.id ≡ look0 x.id)
    pub instances_on : (x : Row) → Among x xs → x.role ≡ an_instance → lives_on x.id ≡ has_path x.path (instances new)
    pub numbers : (p : Path) (n : ℕ) → Among (row_of a_node p (node n)) xs → num n ≡ unwrap_or (at_path p before.of) 0

  left_tells : (xs ys : List Row) → Tells (xs ++ ys) → Tells xs
  left_tells xs ys h = record { modifiers = λ x m. h.modifiers x (among_left x xs ys m); instances_on = λ x m. h.instances_on x (among_left x xs ys m); numbers = λ p n m. h.numbers p n (among_left _ xs ys m) }

  right_tells : (xs ys : List Row) → Tells (xs ++ ys) → Tells ys
  right_tells xs ys h = record { modifiers = λ x m. h.modifiers x (among_right x xs ys m); instances_on = λ x m. h.instances_on x (among_right x xs ys m); numbers = λ p n m. h.numbers p n (among_right _ xs ys m) }

  rest_tells : (y : Row) (xs : List Row) → Tells (y ∷ xs) → Tells xs
  rest_tells y xs h = right_tells (y ∷ []) xs h

  -- the lines of a forest are those of what goes
  abbrev Logs : Forest → List Gone → Type 0
  Logs f gs = flat_map Lines (children_first f) ≡ Told gs

  logs_join : (f g : Forest) (xs ys : List Gone) → Logs f xs → Logs g ys → Logs (join f g) (xs ++ ys)
  logs_join f g xs ys h k = ap (flat_map Lines) (first_join f g) ∙ (flat_append Lines (children_first f) (children_first g) ∙ (ap₂ (λ a b. a ++ b) h k ∙ sym (flat_append (gone_line app look num) xs ys)))

  -- a piece that has no line, before others
  logs_behind : (q : Piece) (f : Forest) (gs : List Gone) → flat_map Lines (last_in q) ≡ [] → Logs f gs → Logs (piece q f) gs
  logs_behind q f gs e h = flat_append Lines (last_in q) (children_first f) ∙ (ap (λ a. a ++ flat_map Lines (children_first f)) e ∙ h)

  logs_alone : (q : Piece) (gs : List Gone) → flat_map Lines (last_in q) ≡ Told gs → Logs (single q) gs
  logs_alone q gs e = flat_append Lines (last_in q) [] ∙ (append-nil (flat_map Lines (last_in q)) ∙ e)

  logs_none : Logs no_pieces []
  logs_none = refl

  logs_leaf : (p : Path) (o : Option Thing) → Logs (single (leaf_piece p o)) []
  logs_leaf p None = refl
  logs_leaf p (Some (Rattle.gl_plain.specs.State.content (Rattle.gl_plain.specs.State.text_content z))) = refl
  logs_leaf p (Some (Rattle.gl_plain.specs.State.content (Rattle.gl_plain.specs.State.comment_content z))) = refl
  logs_leaf p (Some (Rattle.gl_plain.specs.State.content (Rattle.gl_plain.specs.State.element_content z xs))) = refl
  logs_leaf p (Some (Rattle.gl_plain.specs.State.row z)) = refl
  logs_leaf p (Some (Rattle.gl_plain.specs.State.instance_row z)) = refl
  logs_leaf p (Some Rattle.gl_plain.specs.State.block_row) = refl
  logs_leaf p (Some (Rattle.gl_plain.specs.State.modifier_row z)) = refl

  logs_branch : (q : Path) (f : Forest) (gs : List Gone) → Logs f gs → Logs (single (branch q f)) gs
  logs_branch q f gs h = logs_alone (branch q f) gs h

  logs_arm : (q : Path) (k : Option ℕ) (f : Forest) (gs : List Gone) → Logs f gs → Logs (join f (drawn_comment look0 q k)) gs
  logs_arm q None f gs h = logs_join f no_pieces gs [] h logs_none ∙ ap Told (append-nil gs)
  logs_arm q (Some n) f gs h = logs_join f (single (leaf_piece (empty ∷ q) (look0 (node n)))) gs [] h (logs_leaf (empty ∷ q) (look0 (node n))) ∙ ap Told (append-nil gs)

  -- Elements

  tag_logs : (p : Path) (xs : List AttrSpot) (ys : List Piece) (f : Forest) (gs : List Gone) → Logs (join (forest_of ys) f) gs → Logs (join (forest_of (drawn_attrs look0 p xs ++ ys)) f) gs
  tag_logs p [] ys f gs h = h
  tag_logs p (a ∷ xs) ys f gs h = logs_behind (position (attribute_at a.name ∷ p) (pairs_at look0 a.spot)) (join (forest_of (drawn_attrs look0 p xs ++ ys)) f) gs refl (tag_logs p xs ys f gs h)

  places_logs : (p : Path) (i : ℕ) (zs : List ModSpot) (f : Forest) (gs : List Gone) → Logs f gs → Logs (join (forest_of (drawn_places look0 p i zs)) f) gs
  places_logs p i [] f gs h = h
  places_logs p i (z ∷ zs) f gs h = logs_behind (position (modifier_at i ∷ p) (pairs_at look0 z.spot)) (join (forest_of (drawn_places look0 p (suc i) zs)) f) gs refl (places_logs p (suc i) zs f gs h)

  abbrev told_modifier : Path → Modifier → Text
  told_modifier p m = line (codes "destroy " ++ (number_text p before ++ 32 ∷ m.name))

  abbrev goes : Modifier → Bool
  goes m = not (has_path m.path (modifier_paths new))

  -- a modifier that was installed on the node n
  mod_line : (p : Path) (n : ℕ) (id : ℕ) (x : Installed) (o o' : Option Thing) → o ≡ Some (modifier_row x) → o' ≡ o → x.on_node ≡ n → num n ≡ unwrap_or (at_path p before.of) 0
      → line (codes "destroy " ++ (number_text p before ++ 32 ∷ modifier_name o)) ≡ modifier_gone num o'
  mod_line p n id x o o' e f g h =
      subst (λ y. line (codes "destroy " ++ (number_text p before ++ 32 ∷ modifier_name o)) ≡ modifier_gone num y) (sym f)
      (subst (λ y. line (codes "destroy " ++ (number_text p before ++ 32 ∷ modifier_name y)) ≡ modifier_gone num y) (sym e)
      (ap (λ k. line (codes "destroy " ++ ((35 ∷ decimal k) ++ 32 ∷ x.name))) (sym h ∙ ap num (sym g))))

  one_logged : (b c : Bool) (m : Modifier) (ms : List Modifier) (p : Path) (id : ℕ) (gs : List Gone) → b ≡ c → told_modifier p m ≡ modifier_gone num (look (modifier_id id))
      → flat_map (told_modifier p) ms ≡ Told gs
      → flat_map (told_modifier p) (cond (not c) (m ∷ ms) ms) ≡ Told (cond b [] (gone_modifier id ∷ []) ++ gs)
  one_logged true true m ms p id gs e f h = h
  one_logged false false m ms p id gs e f h = ap₂ (λ a d. a ++ d) f h
  one_logged true false m ms p id gs e f h = absurd cc
  one_logged false true m ms p id gs e f h = absurd cc

  mods_logged : (σ τ : Store) (made : List Id) (p : Path) (n : ℕ) (s : Scope) (ms : MScope) (ws : Scope → List (WrittenModifier Scope)) (i : ℕ) (ds : List (WrittenModifier Scope)) (zs : List ModSpot)
      → ModsStand app σ τ look0 made n s ms ws i ds zs → num n ≡ unwrap_or (at_path p before.of) 0 → Tells (mod_rows p i zs)
      → flat_map (told_modifier p) (filter goes (drawn_modifiers look0 p i zs)) ≡ Told (gone_mods lives_on zs)
  mods_logged σ τ made p n s ms ws i [] [] h g k = refl
  mods_logged σ τ made p n s ms ws i (d ∷ ds) (z ∷ zs) h g k =
      let x = row_of a_modifier (modifier_at i ∷ p) (modifier_id z.id) in
      let y = k.modifiers x (inl refl) refl in
      one_logged (lives_on (modifier_id z.id)) (has_path (modifier_at i ∷ p) (modifier_paths new)) _ (filter goes (drawn_modifiers look0 p (suc i) zs)) p z.id (gone_mods lives_on zs) y.0
      (mod_line p n z.id _ (look0 (modifier_id z.id)) (look (modifier_id z.id)) h.0 y.1 refl g)
      (mods_logged σ τ made p n s ms (λ s'. tail_of (ws s')) (suc i) ds zs h.4 g (rest_tells x (mod_rows p (suc i) zs) k))
  mods_logged σ τ made p n s ms ws i _ _ h g k = absurd h

  -- Components

  inst_logged : (i : Inst) (s : Scope) (f : Forest) (gs : List Gone) → lives_on (instance_id i.id) ≡ has_path i.path (instances new) → Logs f gs → Logs (single (component i.path s f)) (gs ++ gone_inst lives_on i)
  inst_logged i s f gs e h =
      logs_alone (component i.path s f) (gs ++ gone_inst lives_on i)
      (flat_append Lines (children_first f) (component i.path s f ∷ [])
      ∙ (ap₂ (λ a b. a ++ b) h (append-nil (Lines (component i.path s f)) ∙ by (lives_on (instance_id i.id)) (has_path i.path (instances new)) e)
      ∙ sym (flat_append (gone_line app look num) gs (gone_inst lives_on i))))
    where
      by : (b c : Bool) → b ≡ c → cond ((class_at app i.path).teardown && not c) (line (codes "destroy " ++ (class_at app i.path).name)) [] ≡ Told (cond b [] (gone_instance i ∷ []))
      by true true e = no_line (line (codes "destroy " ++ (class_at app i.path).name)) (class_at app i.path).teardown
      by false false e = one_line (line (codes "destroy " ++ (class_at app i.path).name)) (class_at app i.path).teardown
      by true false e = absurd cc
      by false true e = absurd cc

  item_logged : (q : Path) (v : Rattle.gl_meaning.specs.Path.V) (i : ℕ) (f g : Forest) (xs ys : List Gone) → Logs f xs → Logs g ys → Logs (piece (item_region q v i f) g) (xs ++ ys)
  item_logged q v i f g xs ys h k = logs_join (single (item_region q v i f)) g xs ys (logs_alone (item_region q v i f) xs h) k

  element_logged : (σ τ : Store) (p : Path) (n : ℕ) (made : List Id) (s : Scope) (ms : MScope) (ws : Scope → List (WrittenModifier Scope)) (ds : List (WrittenModifier Scope)) (xs : List AttrSpot) (zs : List ModSpot) (f : Forest) (ys : List Row) (gs : List Gone)
      → ModsStand app σ τ look0 made n s ms ws 0 ds zs → Tells (tag_rows p n xs zs ++ ys) → Logs f gs
      → Logs (join (forest_of (drawn_attrs look0 p xs ++ drawn_places look0 p 0 zs)) (single (element_node p (tag_of (look0 (node n))) (attrs_of (look0 (node n))) (drawn_modifiers look0 p 0 zs) f))) (gs ++ gone_mods lives_on zs)
  element_logged σ τ p n made s ms ws ds xs zs f ys gs h k g =
      let q = element_node p (tag_of (look0 (node n))) (attrs_of (look0 (node n))) (drawn_modifiers look0 p 0 zs) f in
      let a = left_tells (tag_rows p n xs zs) ys k in
      let b = right_tells (attr_rows p xs) (mod_spot_rows p 0 zs ++ (mod_rows p 0 zs ++ row_of a_node p (node n) ∷ [])) a in
      let c = right_tells (mod_spot_rows p 0 zs) (mod_rows p 0 zs ++ row_of a_node p (node n) ∷ []) b in
      let num_is = (right_tells (mod_rows p 0 zs) (row_of a_node p (node n) ∷ []) c).numbers p n (inl refl) in
      let mods = mods_logged σ τ made p n s ms ws 0 ds zs h num_is (left_tells (mod_rows p 0 zs) (row_of a_node p (node n) ∷ []) c) in
      tag_logs p xs (drawn_places look0 p 0 zs) (single q) (gs ++ gone_mods lives_on zs)
      (places_logs p 0 zs (single q) (gs ++ gone_mods lives_on zs)
      (logs_alone q (gs ++ gone_mods lives_on zs)
      (flat_append Lines (children_first f) (q ∷ [])
      ∙ (ap₂ (λ a b. a ++ b) g (append-nil (Lines q) ∙ (append-nil (flat_map (told_modifier p) (filter goes (drawn_modifiers look0 p 0 zs))) ∙ mods))
      ∙ sym (flat_append (gone_line app look num) gs (gone_mods lives_on zs))))))

  list_logged : (us : Values Path) (P : Values Path → Type 0) (Q : Type 0) → ((us : Values Path) → P us → Q) → WhereValues us P ⊥ → Q
  list_logged no_values P Q f h = absurd h
  list_logged (value v us) P Q f h = f (value v us) h

  else_logged : (us : Values Path) (P Q : Type 0) → (P → Q) → WhereValues us (λ z. ⊥) P → Q
  else_logged no_values P Q f h = f h
  else_logged (value v us) P Q f h = absurd h

  block_logged : (o : Option Block) (P : Block → Type 0) (D : Block → Forest) (ls : Lives) → ((c : Block) → P c → Logs (D c) (gone_in lives_on ls)) → WhereBlock o P (ls ≡ Live.no_lives)
      → Logs (where_block o D no_pieces) (gone_in lives_on ls)
  block_logged None P D ls f h = subst (λ ks. Logs no_pieces (gone_in lives_on ks)) (sym h) logs_none
  block_logged (Some c) P D ls f h = f c h

  module _ (σ τ : Store) where
    mutual
      stmt_logged : (m b : ℕ) (s : Scope) (ms : MScope) (p : Path) (x : t.Stmt) (l : Live) → Stands app σ τ look0 m b s ms p x l → Tells (rows p l) → Logs (drawn app look0 ms p x l) (gone lives_on l)
      stmt_logged m b s ms p (t.text_stmt z) (Live.still n) h k = logs_leaf p (look0 (node n))
      stmt_logged m b s ms p (t.comment_stmt z) (Live.still n) h k = logs_leaf p (look0 (node n))
      stmt_logged m b s ms p (t.put e) (Live.put_live n z) h k = logs_behind (position p (pairs_at look0 z)) (single (leaf_piece p (look0 (node n)))) [] refl (logs_leaf p (look0 (node n)))
      stmt_logged m b s ms p (t.element tag ps c) (Live.element_live n made xs zs ls) h k =
          element_logged σ τ p n made s ms (mods_by ps) (mods_by ps s) xs zs (drawn_in app look0 ms p 0 c ls) (rows_in p 0 ls) (gone_in lives_on ls) h.2 k (body_logged m b s ms p 0 c ls h.3 (right_tells (tag_rows p n xs zs) (rows_in p 0 ls) k))
      stmt_logged m b s ms p (t.if_stmt e u c d) (Live.branch_live z true o ls) h k =
          let q = main ∷ p in
          logs_behind (position p (pairs_at look0 z)) (single (branch q (join (drawn_in app look0 ms q 0 c ls) (drawn_comment look0 q o)))) (gone_in lives_on ls) refl
          (logs_branch q (join (drawn_in app look0 ms q 0 c ls) (drawn_comment look0 q o)) (gone_in lives_on ls) (logs_arm q o (drawn_in app look0 ms q 0 c ls) (gone_in lives_on ls)
          (body_logged m b s ms q 0 c ls h.3 (left_tells (rows_in q 0 ls) (comment_rows q o) (rest_tells _ (arm_rows q o ls) k)))))
      stmt_logged m b s ms p (t.if_stmt e u c d) (Live.branch_live z false o ls) h k =
          let q = otherwise ∷ p in
          logs_behind (position p (pairs_at look0 z)) (single (branch q (join (drawn_in app look0 ms q 0 d ls) (drawn_comment look0 q o)))) (gone_in lives_on ls) refl
          (logs_branch q (join (drawn_in app look0 ms q 0 d ls) (drawn_comment look0 q o)) (gone_in lives_on ls) (logs_arm q o (drawn_in app look0 ms q 0 d ls) (gone_in lives_on ls)
          (body_logged m b s ms q 0 d ls h.3 (left_tells (rows_in q 0 ls) (comment_rows q o) (rest_tells _ (arm_rows q o ls) k)))))
      stmt_logged m b s ms p (t.each e key ns c d) (Live.listed z is) h k =
          let D = drawn_items app look0 ns ms c (items ∷ p) 0 is in
          logs_behind (position p (pairs_at look0 z)) (single (branch (items ∷ p) D)) (gone_items lives_on is) refl
          (logs_branch (items ∷ p) D (gone_items lives_on is)
          (list_logged _ (ListStands app σ τ look0 m b s ms p key ns c is) (Logs D (gone_items lives_on is)) (λ us g. items_logged m b s ms (items ∷ p) ns c 0 _ is g (rest_tells _ (rows_items (items ∷ p) is) k)) h.1))
      stmt_logged m b s ms p (t.each e key ns c d) (Live.unlisted z o ls) h k =
          let q = otherwise ∷ p in
          logs_behind (position p (pairs_at look0 z)) (single (branch q (join (drawn_in app look0 ms q 0 d ls) (drawn_comment look0 q o)))) (gone_in lives_on ls) refl
          (logs_branch q (join (drawn_in app look0 ms q 0 d ls) (drawn_comment look0 q o)) (gone_in lives_on ls) (logs_arm q o (drawn_in app look0 ms q 0 d ls) (gone_in lives_on ls)
          (else_logged _ (ElseStands app σ τ look0 m b s ms p d o ls) (Logs (drawn_in app look0 ms q 0 d ls) (gone_in lives_on ls))
          (λ g. body_logged m b s ms q 0 d ls g.1 (left_tells (rows_in q 0 ls) (comment_rows q o) (rest_tells _ (arm_rows q o ls) k))) h.1)))
      stmt_logged m b s ms p (t.let_stmt es ns c) (Live.let_live made rs ls) h k = body_logged m _ _ (with_names (named_as ns rs) ms) (main ∷ p) 0 c ls h.3 k
      stmt_logged (suc m) b s ms p (t.component_stmt c ps given bs) (Live.component_live i made gm args (Some o) ls) h k =
          let ms' = mscope i args [] (mpassed o ps bs ms) in
          inst_logged i (drawn_scope look0 i args (mpassed o ps bs ms)) (drawn_in app look0 ms' i.path 0 (class_at app i.path).template ls) (gone_in lives_on ls)
          (k.instances_on _ (inl refl) refl)
          (subst (λ q. Tells (rows_in q 0 ls) → Logs (drawn_in app look0 ms' q 0 (class_at app q).template ls) (gone_in lives_on ls)) (sym h.2)
          (λ g. body_logged m _ _ ms' (into c ∷ p) 0 (class_at app (into c ∷ p)).template ls h.7 g) (right_tells (instance_rows i) (rows_in i.path 0 ls) k))
      stmt_logged zero b s ms p (t.component_stmt c ps given bs) (Live.deep_live q) h k = refl
      stmt_logged m b s ms p (t.yield es n) (Live.yield_live o made rs ls) h k =
          block_logged (block_named n (mslots (passed_in ms))) (BlockStands app σ τ look0 m b s ms p es n made rs ls) (λ c. drawn_in app look0 (with_names (named_as c.params rs) (mwriter (passed_in ms))) (slot o ∷ p) 0 c.body ls) ls
          (λ c g. subst (λ j. Tells (rows_in (slot j ∷ p) 0 ls) → Logs (drawn_in app look0 (with_names (named_as c.params rs) (mwriter (passed_in ms))) (slot j ∷ p) 0 c.body ls) (gone_in lives_on ls)) (sym h.0)
          (λ w. body_logged m _ _ (with_names (named_as c.params rs) (mwriter (passed_in ms))) (slot n ∷ p) 0 c.body ls g.3 w) k) h.1
      stmt_logged m b s ms p _ _ h k = absurd h

      body_logged : (m b : ℕ) (s : Scope) (ms : MScope) (p : Path) (i : ℕ) (c : t.Body) (ls : Lives) → StandIn app σ τ look0 m b s ms p i c ls → Tells (rows_in p i ls) → Logs (drawn_in app look0 ms p i c ls) (gone_in lives_on ls)
      body_logged m b s ms p i t.end Live.no_lives h k = refl
      body_logged m b s ms p i (t.stmt x c) (Live.live_and l ls) h k =
          logs_join (drawn app look0 ms (at i ∷ p) x l) (drawn_in app look0 ms p (suc i) c ls) (gone lives_on l) (gone_in lives_on ls)
          (stmt_logged m b s ms (at i ∷ p) x l h.0 (left_tells (rows (at i ∷ p) l) (rows_in p (suc i) ls) k))
          (body_logged m b s ms p (suc i) c ls h.1 (right_tells (rows (at i ∷ p) l) (rows_in p (suc i) ls) k))
      body_logged m b s ms p i _ _ h k = absurd h

      items_logged : (m b : ℕ) (s : Scope) (ms : MScope) (p : Path) (ns : List Text) (c : t.Body) (i : ℕ) (xs : List Entry) (is : Items) → ItemsStand app σ τ look0 m b s ms p ns c xs is → Tells (rows_items p is)
          → Logs (drawn_items app look0 ns ms c p i is) (gone_items lives_on is)
      items_logged m b s ms p ns c i [] Live.no_items h k = refl
      items_logged m b s ms p ns c i (x ∷ xs) (Live.item_live z o ls is) h k =
          let D : Path → Forest = λ q. drawn_in app look0 (with_names (item_names ns z) ms) q 0 c ls in
          let a = left_tells (item_rows p z o ls) (rows_items p is) k in
          let w = left_tells (rows_in (item_step z ∷ p) 0 ls) (comment_rows (item_step z ∷ p) o) (rest_tells _ (arm_rows (item_step z ∷ p) o ls) (rest_tells _ _ a)) in
          item_logged (item_step z ∷ p) (held_value (look0 (ref z.value))) i (join (D (item_step z ∷ p)) (drawn_comment look0 (item_step z ∷ p) o)) (drawn_items app look0 ns ms c p (suc i) is) (gone_in lives_on ls) (gone_items lives_on is)
          (logs_arm (item_step z ∷ p) o (D (item_step z ∷ p)) (gone_in lives_on ls)
          (subst (λ q. Tells (rows_in q 0 ls) → Logs (D q) (gone_in lives_on ls)) (sym (ap₂ (λ a n. item a n ∷ p) h.0.0 h.0.1))
          (λ g. body_logged m _ _ (with_names (item_names ns z) ms) (item x.key x.occurrence ∷ p) 0 c ls h.4 g) w))
          (items_logged m b s ms p ns c (suc i) xs is h.5 (right_tells (item_rows p z o ls) (rows_items p is) k))
      items_logged m b s ms p ns c i _ _ h k = absurd h

    pub root_logged : (m : ℕ) (l : Live) → RootStands app σ τ look0 m l → Tells (rows [] l) → Logs (drawn_app app look0 l) (gone lives_on l)
    root_logged (suc m) (Live.component_live i made gm args None ls) h k =
        let ms' = mscope i args [] mnothing in
        inst_logged i (drawn_scope look0 i args mnothing) (drawn_in app look0 ms' i.path 0 (class_at app i.path).template ls) (gone_in lives_on ls)
        (k.instances_on _ (inl refl) refl)
        (subst (λ q. Tells (rows_in q 0 ls) → Logs (drawn_in app look0 ms' q 0 (class_at app q).template ls) (gone_in lives_on ls)) (sym h.1)
        (λ g. body_logged m _ _ ms' [] 0 (class_at app []).template ls h.5 g) (right_tells (instance_rows i) (rows_in i.path 0 ls) k))
    root_logged zero (Live.deep_live q) h k = refl
    root_logged _ _ h k = absurd h
