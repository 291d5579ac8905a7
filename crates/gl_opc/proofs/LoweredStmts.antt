-- The words that the code of a body's wire has in a program stand for the body.
use Rattle.std.proofs.Common.{◌≡◌, ℕ, zero, suc, List, [], ◌∷◌, ◌++◌, true, false, slice_get, refl, subst, ◌∙◌}
use Rattle.std.specs.Prelude.{flat_map}
use Rattle.gl_base.specs.Texts.{Text}
use Rattle.gl_ast.specs.Template as t
use Rattle.gl_ops.specs.declared.op.Op.{Op}
use Rattle.gl_ops.specs.declared.op.Op.TheVariants as op
use Rattle.gl_meaning.specs.Known as k
use Rattle.gl_meaning.specs.Manifest.{Manifest, ClassEntry, app_of, class_of}
use Rattle.gl_wire.specs.Symbols.{with_names, place_of, value_mentions, part_mentions, parts_mentions, arguments_mentions, stmt_mentions, body_mentions, slots_mentions}
use Rattle.gl_wire.specs.WireOf.{places_of, expr_wire, exprs_wire, named_wire, value_wire, part_wire, parts_wire, arguments_wire, stmt_wire, body_wire, slots_wire}
use Rattle.gl_program.specs.Program.{Program, Stands}
use Rattle.gl_opc.specs.Coding as code
use Rattle.gl_opc.specs.Numbers.{class_number, modifier_number, parameter_symbol, item_op}
use Rattle.gl_opc.specs.Piece.{Place, Piece, ◌⨾◌, op_piece, with_text, with_name, text_op, name_op, op_where, skipping, forked}
use Rattle.gl_opc.specs.Spans.{if_op, ValueAt, PartAt, PartsAt, ArgumentsAt, ParametersAt, BareAt, StmtAt, BodyAt, BlocksAt}
use Rattle.gl_opc.proofs.Codable.{CodableValue, CodablePart, CodableParts, CodableArguments, CodableStmt, CodableBody, CodableSlots}
use Rattle.gl_opc.proofs.LoweredExprs.{both_none, is_known, exprs_counted, both_counted, expr_lowered, exprs_lowered, named_lowered}
use Rattle.gl_opc.proofs.Places.{From, in_turn, none, one, at_address, text_first, name_first, text_one, name_one, number_one, skips, forks}
use Rattle.gl_opc.proofs.SameNames.{SameNames, same_more, Among, front_among, back_among}
use Rattle.gl_opc.proofs.WireUnknowns.{class_alike, modifier_alike}

-- the symbols of an item and of its index
item_symbols : (symbols ns : List Text) (i : ℕ) → code.item_symbol (slice_get (places_of symbols ns) i) ≡ parameter_symbol symbols (slice_get ns i)
item_symbols symbols [] i = refl
item_symbols symbols (n ∷ ns) zero = refl
item_symbols symbols (n ∷ ns) (suc i) = item_symbols symbols ns i

item_piece : (symbols ns : List Text) → code.item_code (places_of symbols ns) ≡ op_piece (item_op symbols ns)
item_piece symbols ns = rw (item_symbols symbols ns 0, item_symbols symbols ns 1) refl

module _ (p : Program) (m : Manifest) (c : ClassEntry) (symbols : List Text) where
  -- Tags

  module _ (scope params : List Text) (same : SameNames scope params) where
    value_lowered : (x : t.AttrValue) (at to : Place) → CodableValue x → Among (value_mentions x) symbols
        → k.value_unknowns (app_of m []) (class_of c t.end) params x ≡ [] → From p at (code.expr_code m c symbols (value_wire symbols scope x)) to
        → ValueAt p m c symbols params at.address x to.address
    value_lowered (t.fixed s) at to u a e h = text_one p at to op.Str s h
    value_lowered (t.live x) at to u a e h = expr_lowered p m c symbols [] scope params same true x at to u a e h

    part_lowered : (x : t.Part) (at to : Place) → CodablePart x → Among (part_mentions x) symbols
        → k.part_unknowns (app_of m []) (class_of c t.end) params x ≡ [] → From p at (code.part_code m c symbols (part_wire symbols scope x)) to
        → PartAt p m c symbols params at.address x to.address
    part_lowered (t.attribute n (t.fixed s)) at to u a e h =
        let f = name_first p at to n (λ i. with_text s (λ j. op_piece (op.Attr i j))) h in
        let g = text_first p f.1 to s (λ j. op_piece (op.Attr f.0 j)) f.4 in
        (f.0, g.0, f.2, g.2, at_address p _ _ _ _ (g.3 ∙ f.3) (one p g.1 to _ g.4))
    part_lowered (t.attribute n (t.live x)) at to u a e h =
        let f = in_turn p at to (code.expr_code m c symbols (expr_wire symbols scope true x)) (name_op op.AttrRef n) h in
        let g = name_one p f.0 to op.AttrRef n f.2 in
        (g.0, f.0.address, expr_lowered p m c symbols [] scope params same true x at f.0 u a e f.1, g.1, g.2)
    part_lowered (t.modifier n es ns) at to u a e h =
        let es' = exprs_wire symbols scope false es in
        let ns' = named_wire symbols scope ns in
        let kind : ℕ → Op = λ i. op.Mod i (code.count_both es' ns') in
        let last = op_where kind (modifier_number m n) in
        let f = in_turn p at to (code.exprs_code m c symbols es') (code.named_code m c symbols ns' ⨾ last) h in
        let g = in_turn p f.0 to (code.named_code m c symbols ns') last f.2 in
        let d = both_none _ _ e in
        let r = both_none _ _ d.1 in
        let o = number_one p g.0 to kind (modifier_number m n) (modifier_alike m n ∙ is_known _ _ n d.0) g.2 in (
          o.0,
          f.0.address,
          g.0.address,
          exprs_lowered p m c symbols [] scope params same false es at f.0 u.0 (front_among _ _ _ a) r.0 f.1,
          named_lowered p m c symbols [] scope params same ns f.0 g.0 u.1 (back_among _ _ _ a) r.1 g.1,
          o.1,
          subst (λ i. Stands p g.0.address (op.Mod o.0 i) to.address) (both_counted symbols scope false es ns) o.2,
        )
    part_lowered t.spread at to u a e h = one p at to op.Spread h

    parts_lowered : (ps : List t.Part) (at to : Place) → CodableParts ps → Among (parts_mentions ps) symbols
        → flat_map (k.part_unknowns (app_of m []) (class_of c t.end) params) ps ≡ [] → From p at (code.parts_code m c symbols (parts_wire symbols scope ps)) to
        → PartsAt p m c symbols params at.address ps to.address
    parts_lowered [] at to u a e h = none p at to h
    parts_lowered (x ∷ xs) at to u a e h =
        let f = in_turn p at to (code.part_code m c symbols (part_wire symbols scope x)) (code.parts_code m c symbols (parts_wire symbols scope xs)) h in
        let d = both_none _ _ e in
        (f.0.address, part_lowered x at f.0 u.0 (front_among _ _ _ a) d.0 f.1, parts_lowered xs f.0 to u.1 (back_among _ _ _ a) d.1 f.2)

    arguments_lowered : (given : List (Text × t.AttrValue)) (at to : Place) → CodableArguments given → Among (arguments_mentions given) symbols
        → flat_map (λ g. k.value_unknowns (app_of m []) (class_of c t.end) params g.1) given ≡ [] → From p at (code.arguments_code m c symbols (arguments_wire symbols scope given)) to
        → ArgumentsAt p m c symbols params at.address given to.address
    arguments_lowered [] at to u a e h = none p at to h
    arguments_lowered (x ∷ xs) at to u a e h =
        let rest = code.arguments_code m c symbols (arguments_wire symbols scope xs) in
        let f = in_turn p at to (code.expr_code m c symbols (value_wire symbols scope x.1)) (name_op op.Arg x.0 ⨾ rest) h in
        let g = in_turn p f.0 to (name_op op.Arg x.0) rest f.2 in
        let o = name_one p f.0 g.0 op.Arg x.0 g.1 in
        let d = both_none _ _ e in (
          o.0,
          f.0.address,
          g.0.address,
          value_lowered x.1 at f.0 u.0 (front_among _ _ _ a) d.0 f.1,
          o.1,
          o.2,
          arguments_lowered xs g.0 to u.1 (back_among _ _ _ a) d.1 g.2,
        )

  -- Statements

  parameters_lowered : (kind : ℕ → Op) (ns : List Text) (at to : Place) → From p at (code.params_code kind (places_of symbols ns)) to
      → ParametersAt p m c symbols kind at.address ns to.address
  parameters_lowered kind [] at to h = none p at to h
  parameters_lowered kind (n ∷ ns) at to h =
      let f = in_turn p at to (op_piece (kind (place_of symbols n))) (code.params_code kind (places_of symbols ns)) h in
      (f.0.address, one p at f.0 _ f.1, parameters_lowered kind ns f.0 to f.2)

  item_lowered : (ns : List Text) (at to : Place) → From p at (code.item_code (places_of symbols ns)) to → Stands p at.address (item_op symbols ns) to.address
  item_lowered ns at to h = one p at to (item_op symbols ns) (subst (λ (f : Piece). From p at f to) (item_piece symbols ns) h)

  bare_lowered : (scope : List Text) (ss : t.Slots) (at to : Place) → From p at (code.bare_code (slots_wire symbols scope ss)) to → BareAt p m c symbols at.address ss to.address
  bare_lowered scope t.no_slots at to h = one p at to op.Bare h
  bare_lowered scope (t.block name ns b ss) at to h = none p at to h

  mutual
    stmt_lowered : (scope params : List Text) → SameNames scope params → (s : t.Stmt) (at to : Place) → CodableStmt s → Among (stmt_mentions s) symbols
        → k.stmt_unknowns (app_of m []) (class_of c t.end) params s ≡ [] → From p at (code.stmt_code m c symbols (stmt_wire symbols scope s)) to
        → StmtAt p m c symbols params at.address s to.address
    stmt_lowered scope params same (t.text_stmt s) at to u a e h = text_one p at to op.Text s h
    stmt_lowered scope params same (t.comment_stmt s) at to u a e h = text_one p at to op.Comment s h
    stmt_lowered scope params same (t.put x) at to u a e h =
        let f = in_turn p at to (code.expr_code m c symbols (expr_wire symbols scope true x)) (op_piece op.Put) h in
        (f.0.address, expr_lowered p m c symbols [] scope params same true x at f.0 u a e f.1, one p f.0 to op.Put f.2)
    stmt_lowered scope params same (t.element tag ps b) at to u a e h =
        let parts = code.parts_code m c symbols (parts_wire symbols scope ps) in
        let body = code.body_code m c symbols (body_wire symbols scope b) in
        let f = in_turn p at to (text_op op.Open tag) (parts ⨾ (op_piece op.Flush ⨾ (body ⨾ op_piece op.Close))) h in
        let g = in_turn p f.0 to parts (op_piece op.Flush ⨾ (body ⨾ op_piece op.Close)) f.2 in
        let i = in_turn p g.0 to (op_piece op.Flush) (body ⨾ op_piece op.Close) g.2 in
        let j = in_turn p i.0 to body (op_piece op.Close) i.2 in
        let o = text_one p at f.0 op.Open tag f.1 in
        let d = both_none _ _ e in (
          o.0,
          f.0.address,
          g.0.address,
          i.0.address,
          j.0.address,
          o.1,
          o.2,
          parts_lowered scope params same ps f.0 g.0 u.0 (front_among _ _ _ a) d.0 g.1,
          one p g.0 i.0 op.Flush i.1,
          body_lowered scope params same b i.0 j.0 u.1 (back_among _ _ _ a) d.1 j.1,
          one p j.0 to op.Close j.2,
        )
    stmt_lowered scope params same (t.component_stmt n ps given ss) at to u a e h =
        let head = op_where op.Comp (class_number m n) in
        let given' = code.arguments_code m c symbols (arguments_wire symbols scope given) in
        let parts = code.parts_code m c symbols (parts_wire symbols scope ps) in
        let blocks = code.slots_code m c symbols (slots_wire symbols scope ss) in
        let bare = code.bare_code (slots_wire symbols scope ss) in
        let f = in_turn p at to head (given' ⨾ (parts ⨾ (blocks ⨾ (bare ⨾ op_piece op.Invoke)))) h in
        let g = in_turn p f.0 to given' (parts ⨾ (blocks ⨾ (bare ⨾ op_piece op.Invoke))) f.2 in
        let i = in_turn p g.0 to parts (blocks ⨾ (bare ⨾ op_piece op.Invoke)) g.2 in
        let j = in_turn p i.0 to blocks (bare ⨾ op_piece op.Invoke) i.2 in
        let l = in_turn p j.0 to bare (op_piece op.Invoke) j.2 in
        let d = both_none _ _ e in
        let q = both_none _ _ d.1 in
        let r = both_none _ _ q.1 in
        let o = number_one p at f.0 op.Comp (class_number m n) (class_alike m n ∙ is_known _ _ n d.0) f.1 in
        let later = back_among symbols (arguments_mentions given) (parts_mentions ps ++ slots_mentions ss) a in (
          o.0,
          f.0.address,
          g.0.address,
          i.0.address,
          j.0.address,
          l.0.address,
          o.1,
          o.2,
          arguments_lowered scope params same given f.0 g.0 u.1 (front_among _ _ _ a) q.0 g.1,
          parts_lowered scope params same ps g.0 i.0 u.0 (front_among _ _ _ later) r.0 i.1,
          slots_lowered scope params same ss i.0 j.0 u.2 (back_among _ _ _ later) r.1 j.1,
          bare_lowered scope ss j.0 l.0 l.1,
          one p l.0 to op.Invoke l.2,
        )
    stmt_lowered scope params same (t.if_stmt x unless b other) at to u a e h =
        let test = code.expr_code m c symbols (expr_wire symbols scope false x) in
        let body = code.body_code m c symbols (body_wire symbols scope b) in
        let body' = code.body_code m c symbols (body_wire symbols scope other) in
        let f = in_turn p at to test (forked (if_op unless) body body' ⨾ op_piece op.EndIf) h in
        let g = in_turn p f.0 to (forked (if_op unless) body body') (op_piece op.EndIf) f.2 in
        let i = forks p f.0 g.0 (if_op unless) body body' g.1 in
        let d = both_none _ _ e in
        let q = both_none _ _ d.1 in
        let later = back_among symbols _ (body_mentions b ++ body_mentions other) a in (
          f.0.address,
          i.0.address,
          i.1.address,
          i.2.address,
          g.0.address,
          expr_lowered p m c symbols [] scope params same false x at f.0 u.0 (front_among _ _ _ a) d.0 f.1,
          i.3,
          body_lowered scope params same b i.0 i.1 u.1 (front_among _ _ _ later) q.0 i.4,
          i.5,
          body_lowered scope params same other i.2 g.0 u.2 (back_among _ _ _ later) q.1 i.6,
          one p g.0 to op.EndIf g.2,
        )
    stmt_lowered scope params same (t.each x key ns b other) at to u a e h =
        let test = code.expr_code m c symbols (expr_wire symbols scope false x) in
        let body = code.body_code m c symbols (body_wire symbols (with_names scope ns) b) in
        let body' = code.body_code m c symbols (body_wire symbols scope other) in
        let item = code.item_code (places_of symbols ns) in
        let turn : ℕ → Piece = λ i. forked (op.Each i) (item ⨾ (body ⨾ op_piece op.EndItem)) body' in
        let f = in_turn p at to test (with_name key turn ⨾ op_piece op.EndEach) h in
        let g = in_turn p f.0 to (with_name key turn) (op_piece op.EndEach) f.2 in
        let o = name_first p f.0 g.0 key turn g.1 in
        let i = forks p o.1 g.0 (op.Each o.0) (item ⨾ (body ⨾ op_piece op.EndItem)) body' o.4 in
        let j = in_turn p i.0 i.1 item (body ⨾ op_piece op.EndItem) i.4 in
        let l = in_turn p j.0 i.1 body (op_piece op.EndItem) j.2 in
        let d = both_none _ _ e in
        let q = both_none _ _ d.1 in
        let later = back_among symbols _ (ns ++ (body_mentions b ++ body_mentions other)) a in
        let bodies = back_among symbols ns (body_mentions b ++ body_mentions other) later in (
          o.0,
          f.0.address,
          i.0.address,
          j.0.address,
          l.0.address,
          i.1.address,
          i.2.address,
          g.0.address,
          expr_lowered p m c symbols [] scope params same false x at f.0 u.0 (front_among _ _ _ a) d.0 f.1,
          o.2,
          at_address p o.1.address f.0.address i.0.address (op.Each o.0 i.2.address) o.3 i.3,
          item_lowered ns i.0 j.0 j.1,
          body_lowered (with_names scope ns) (params ++ ns) (same_more scope params ns same) b j.0 l.0 u.1 (front_among _ _ _ bodies) q.0 l.1,
          one p l.0 i.1 op.EndItem l.2,
          i.5,
          body_lowered scope params same other i.2 g.0 u.2 (back_among _ _ _ bodies) q.1 i.6,
          one p g.0 to op.EndEach g.2,
        )
    stmt_lowered scope params same (t.let_stmt es ns b) at to u a e h =
        let es' = exprs_wire symbols scope false es in
        let binds = code.params_code op.Bind (places_of symbols ns) in
        let body = code.body_code m c symbols (body_wire symbols (with_names scope ns) b) in
        let head = op_piece (op.Let (code.count_exprs es')) in
        let f = in_turn p at to (code.exprs_code m c symbols es') (head ⨾ (binds ⨾ (body ⨾ op_piece op.EndLet))) h in
        let g = in_turn p f.0 to head (binds ⨾ (body ⨾ op_piece op.EndLet)) f.2 in
        let i = in_turn p g.0 to binds (body ⨾ op_piece op.EndLet) g.2 in
        let j = in_turn p i.0 to body (op_piece op.EndLet) i.2 in
        let d = both_none _ _ e in
        let later = back_among symbols _ (ns ++ body_mentions b) a in (
          f.0.address,
          g.0.address,
          i.0.address,
          j.0.address,
          exprs_lowered p m c symbols [] scope params same false es at f.0 u.0 (front_among _ _ _ a) d.0 f.1,
          subst (λ n. Stands p f.0.address (op.Let n) g.0.address) (exprs_counted symbols scope false es) (one p f.0 g.0 _ g.1),
          parameters_lowered op.Bind ns g.0 i.0 i.1,
          body_lowered (with_names scope ns) (params ++ ns) (same_more scope params ns same) b i.0 j.0 u.1 (back_among _ _ _ later) d.1 j.1,
          one p j.0 to op.EndLet j.2,
        )
    stmt_lowered scope params same (t.yield es name) at to u a e h =
        let es' = exprs_wire symbols scope false es in
        let kind : ℕ → Op = λ n. op.Yield (code.count_exprs es') n in
        let f = in_turn p at to (code.exprs_code m c symbols es') (name_op kind name) h in
        let o = name_one p f.0 to kind name f.2 in (
          o.0,
          f.0.address,
          exprs_lowered p m c symbols [] scope params same false es at f.0 u a e f.1,
          o.1,
          subst (λ n. Stands p f.0.address (op.Yield n o.0) to.address) (exprs_counted symbols scope false es) o.2,
        )

    pub body_lowered : (scope params : List Text) → SameNames scope params → (b : t.Body) (at to : Place) → CodableBody b → Among (body_mentions b) symbols
        → k.body_unknowns (app_of m []) (class_of c t.end) params b ≡ [] → From p at (code.body_code m c symbols (body_wire symbols scope b)) to
        → BodyAt p m c symbols params at.address b to.address
    body_lowered scope params same t.end at to u a e h = none p at to h
    body_lowered scope params same (t.stmt s b) at to u a e h =
        let f = in_turn p at to (code.stmt_code m c symbols (stmt_wire symbols scope s)) (code.body_code m c symbols (body_wire symbols scope b)) h in
        let d = both_none _ _ e in (
          f.0.address,
          stmt_lowered scope params same s at f.0 u.0 (front_among _ _ _ a) d.0 f.1,
          body_lowered scope params same b f.0 to u.1 (back_among _ _ _ a) d.1 f.2,
        )

    slots_lowered : (scope params : List Text) → SameNames scope params → (ss : t.Slots) (at to : Place) → CodableSlots ss → Among (slots_mentions ss) symbols
        → k.slots_unknowns (app_of m []) (class_of c t.end) params ss ≡ [] → From p at (code.slots_code m c symbols (slots_wire symbols scope ss)) to
        → BlocksAt p m c symbols params at.address ss to.address
    slots_lowered scope params same t.no_slots at to u a e h = none p at to h
    slots_lowered scope params same (t.block name ns b ss) at to u a e h =
        let takes = code.params_code op.Param (places_of symbols ns) in
        let body = code.body_code m c symbols (body_wire symbols (with_names scope ns) b) in
        let inner = takes ⨾ (body ⨾ op_piece op.EndBlock) in
        let block : ℕ → Piece = λ i. skipping (op.Block i) inner in
        let f = in_turn p at to (with_name name block) (code.slots_code m c symbols (slots_wire symbols scope ss)) h in
        let o = name_first p at f.0 name block f.1 in
        let g = skips p o.1 f.0 (op.Block o.0) inner o.4 in
        let i = in_turn p g.0 f.0 takes (body ⨾ op_piece op.EndBlock) g.2 in
        let j = in_turn p i.0 f.0 body (op_piece op.EndBlock) i.2 in
        let d = both_none _ _ e in
        let later = back_among symbols ns (body_mentions b ++ slots_mentions ss) a in (
          o.0,
          g.0.address,
          i.0.address,
          j.0.address,
          f.0.address,
          o.2,
          at_address p o.1.address at.address g.0.address (op.Block o.0 f.0.address) o.3 g.1,
          parameters_lowered op.Param ns g.0 i.0 i.1,
          body_lowered (with_names scope ns) (params ++ ns) (same_more scope params ns same) b i.0 j.0 u.0 (front_among _ _ _ later) d.0 j.1,
          one p j.0 f.0 op.EndBlock j.2,
          slots_lowered scope params same ss f.0 to u.1 (back_among _ _ _ later) d.1 f.2,
        )
