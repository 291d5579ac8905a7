-- What is linked of statements is their code, and ends at the first of their unknown names.
use Rattle.std.proofs.Common.{◌≡◌, ◌+◌, ℕ, suc, List, [], ◌∷◌, ◌++◌, Bool, Ok, Err, length, refl, sym, ap, subst, ◌∙◌, arith}
use Rattle.gl_base.specs.Texts.{Text}
use Rattle.gl_ops.specs.declared.op.Op.{Op}
use Rattle.gl_ops.specs.declared.op.Op.TheVariants as op
use Rattle.gl_meaning.specs.Known.{component_kind}
use Rattle.gl_wire.specs.Symbols.{place_of}
use Rattle.gl_wire.specs.Wire as w
use Rattle.gl_opc.specs.Coding.{count_exprs, expr_code, exprs_code, parts_code, arguments_code, item_code, params_code, bare_code, stmt_code, body_code, slots_code}
use Rattle.gl_opc.specs.Linked.{Context, State, Step, ◌>>=◌, started, here, op_added, name_added, name_op_added, gap_added, skipped_over, turned, met, item_added, params_linked, bare_linked, expr_linked, exprs_linked, parts_linked, arguments_linked, stmt_linked, body_linked, slots_linked}
use Rattle.gl_opc.specs.Numbers.{class_number}
use Rattle.gl_opc.specs.Piece.{Piece, ◌⨾◌, op_piece, op_where, text_op, name_op, with_name, skipping, forked}
use Rattle.gl_opc.specs.Spans.{if_op}
use Rattle.gl_opc.specs.TreeFaults.{Fault}
use Rattle.gl_opc.specs.WireFaults.{count_stmt, count_body, count_slots, stmt_faults, body_faults, slots_faults}
use Rattle.gl_opc.proofs.Joins.{ended, behind, behind-behind, behind-nothing, named_behind, added_op, added_text_op, added_name_op, bind_assoc, join, join_added, join_after, join_first, join_known, begins}
use Rattle.gl_opc.proofs.Jumps.{join_skipped, join_forked}
use Rattle.gl_opc.proofs.LinkedExprs.{linked_expr, linked_exprs, linked_parts, linked_arguments}

linked_params : (kind : ℕ → Op) (is : List ℕ) (s : State) → params_linked kind is s ≡ behind 0 (params_code kind is) s
linked_params kind [] s = sym (behind-nothing s)
linked_params kind (i ∷ is) s =
    linked_params kind is (op_added (kind i) s)
    ∙ (ap (λ t. behind 0 (params_code kind is) t) (added_op (kind i) s) ∙ behind-behind 0 0 (op_piece (kind i)) (params_code kind is) s)

linked_bare : (ss : w.Slots) (s : State) → bare_linked ss s ≡ behind 0 (bare_code ss) s
linked_bare w.no_slots s = added_op op.Bare s
linked_bare (w.block n is b ss) s = sym (behind-nothing s)

-- the statements behind have their numbers
renumbered : (x : Step State) (faults : ℕ → List Fault) (i j : ℕ) (t : State) → x ≡ ended (faults i) t → i ≡ j → x ≡ ended (faults j) t
renumbered x faults i j t e h = subst (λ k. x ≡ ended (faults k) t) h e

-- what comes last of two steps
last : (x : Step State) (y : State → Step State) (h : State → State → State) (k : State → State)
    → (x >>= λ u. y u >>= λ v. Ok (k (h u v))) ≡ ((x >>= λ u. y u >>= λ v. Ok (h u v)) >>= λ z. Ok (k z))
last (Ok u) y h k = sym (bind_assoc (y u) (λ v. Ok (h u v)) (λ z. Ok (k z)))
last (Err e) y h k = refl

module _ (context : Context) where
  abbrev of_expr : w.Expr → Piece
  of_expr e = expr_code context.manifest context.class context.symbols e

  abbrev of_exprs : w.Exprs → Piece
  of_exprs es = exprs_code context.manifest context.class context.symbols es

  abbrev of_parts : List w.Part → Piece
  of_parts ps = parts_code context.manifest context.class context.symbols ps

  abbrev of_arguments : w.NamedExprs → Piece
  of_arguments ns = arguments_code context.manifest context.class context.symbols ns

  abbrev of_stmt : w.Stmt → Piece
  of_stmt x = stmt_code context.manifest context.class context.symbols x

  abbrev of_body : w.Body → Piece
  of_body b = body_code context.manifest context.class context.symbols b

  abbrev of_slots : w.Slots → Piece
  of_slots ss = slots_code context.manifest context.class context.symbols ss

  abbrev stmt_faults_at : w.Stmt → ℕ → List Fault
  stmt_faults_at x i = stmt_faults context.manifest context.class i x

  abbrev body_faults_at : w.Body → ℕ → List Fault
  body_faults_at b i = body_faults context.manifest context.class i b

  abbrev slots_faults_at : w.Slots → ℕ → List Fault
  slots_faults_at ss i = slots_faults context.manifest context.class i ss

  -- what is linked of a body is its code, whatever is linked before
  abbrev BodyLinks : w.Body → Type 0
  BodyLinks b = (s : State) → body_linked context b s ≡ ended (body_faults_at b s.begun) (behind (count_body b) (of_body b) s)

  -- a body, from where so many statements have begun, and an opcode
  body_then : (b : w.Body) → BodyLinks b → (o : Op) (i : ℕ) (s : State) → s.begun ≡ i
      → (body_linked context b s >>= λ t. Ok (op_added o t)) ≡ ended (body_faults_at b i) (behind (count_body b) (of_body b ⨾ op_piece o) s)
  body_then b links o i s h =
      renumbered _ (body_faults_at b) s.begun i _ (join_added (body_linked context b s) (op_added o) _ (count_body b) (of_body b) (op_piece o) s (links s) (added_op o _)) h

  linked_put : (e : w.Expr) (s : State) → stmt_linked context (w.put e) s ≡ ended (stmt_faults_at (w.put e) s.begun) (behind 1 (of_expr e ⨾ op_piece op.Put) s)
  linked_put e s =
      begins _ _ 0 (of_expr e ⨾ op_piece op.Put) s
      (join_added (expr_linked context s.begun e (started s)) (op_added op.Put) _ 0 (of_expr e) (op_piece op.Put) (started s) (linked_expr context s.begun e (started s)) (added_op op.Put _))

  linked_yield : (es : w.Exprs) (to : Text) (s : State)
      → stmt_linked context (w.yield es to) s ≡ ended (stmt_faults_at (w.yield es to) s.begun) (behind 1 (of_exprs es ⨾ name_op (λ n. op.Yield (count_exprs es) n) to) s)
  linked_yield es to s =
      begins _ _ 0 (of_exprs es ⨾ name_op (λ n. op.Yield (count_exprs es) n) to) s
      (join_added (exprs_linked context s.begun es (started s)) (name_op_added (λ n. op.Yield (count_exprs es) n) to) _ 0 (of_exprs es) (name_op (λ n. op.Yield (count_exprs es) n) to) (started s)
      (linked_exprs context s.begun es (started s)) (added_name_op (λ n. op.Yield (count_exprs es) n) to _))

  linked_element : (tag : Text) (ps : List w.Part) (b : w.Body) → BodyLinks b → (s : State)
      → stmt_linked context (w.element tag ps b) s
      ≡ ended (stmt_faults_at (w.element tag ps b) s.begun) (behind (suc (count_body b)) (of_stmt (w.element tag ps b)) s)
  linked_element tag ps b links s =
      let m = count_body b in
      let last_part : Piece = of_body b ⨾ op_piece op.Close in
      let s0 = behind 0 (text_op op.Open tag) (started s) in
      let s1 = behind 0 (of_parts ps) s0 in
      let s2 = behind 0 (op_piece op.Flush) s1 in
      let rest : State → Step State = λ t. body_linked context b t >>= λ u. Ok (op_added op.Close u) in
      begins _ _ m (of_stmt (w.element tag ps b)) s
      (join_after (λ t. parts_linked context s.begun ps t >>= λ u. rest (op_added op.Flush u)) _ _ m (text_op op.Open tag) (of_parts ps ⨾ (op_piece op.Flush ⨾ last_part)) (started s) (added_text_op op.Open tag (started s))
      (join_first (parts_linked context s.begun ps s0) (λ u. rest (op_added op.Flush u)) _ _ m (of_parts ps) (op_piece op.Flush ⨾ last_part) s0 (linked_parts context s.begun ps s0)
      (join_after rest _ _ m (op_piece op.Flush) last_part s1 (added_op op.Flush s1) (body_then b links op.Close (suc s.begun) s2 (omega arith)))))

  linked_let : (es : w.Exprs) (is : List ℕ) (b : w.Body) → BodyLinks b → (s : State)
      → stmt_linked context (w.let_stmt es is b) s
      ≡ ended (stmt_faults_at (w.let_stmt es is b) s.begun) (behind (suc (count_body b)) (of_stmt (w.let_stmt es is b)) s)
  linked_let es is b links s =
      let m = count_body b in
      let o = op.Let (count_exprs es) in
      let last_part : Piece = of_body b ⨾ op_piece op.EndLet in
      let s0 = behind 0 (of_exprs es) (started s) in
      let s1 = behind 0 (op_piece o) s0 in
      let s2 = behind 0 (params_code op.Bind is) s1 in
      let rest : State → Step State = λ t. body_linked context b t >>= λ u. Ok (op_added op.EndLet u) in
      begins _ _ m (of_stmt (w.let_stmt es is b)) s
      (join_first (exprs_linked context s.begun es (started s)) (λ t. rest (params_linked op.Bind is (op_added o t))) _ _ m (of_exprs es) (op_piece o ⨾ (params_code op.Bind is ⨾ last_part)) (started s) (linked_exprs context s.begun es (started s))
      (join_after (λ t. rest (params_linked op.Bind is t)) _ _ m (op_piece o) (params_code op.Bind is ⨾ last_part) s0 (added_op o s0)
      (join_after rest _ _ m (params_code op.Bind is) last_part s1 (linked_params op.Bind is s1) (body_then b links op.EndLet (suc s.begun) s2 (omega arith)))))

  linked_if : (e : w.Expr) (unless : Bool) (b c : w.Body) → BodyLinks b → BodyLinks c → (s : State)
      → stmt_linked context (w.if_stmt e unless b c) s
      ≡ ended (stmt_faults_at (w.if_stmt e unless b c) s.begun) (behind (suc (count_body b + count_body c)) (of_stmt (w.if_stmt e unless b c)) s)
  linked_if e unless b c links links' s =
      let n = count_body b in
      let m = count_body c in
      let fork : Piece = forked (if_op unless) (of_body b) (of_body c) in
      let t = behind 0 (of_expr e) (started s) in
      let x = body_linked context b (gap_added t) in
      let u = behind n (of_body b) (gap_added t) in
      let faults : List Fault = body_faults_at b (suc s.begun) ++ body_faults_at c (suc s.begun + n) in
      let first : x ≡ ended (body_faults_at b (suc s.begun)) u = renumbered x (body_faults_at b) _ (suc s.begun) u (links (gap_added t)) (omega arith) in
      let second = renumbered _ (body_faults_at c) _ (suc s.begun + n) _ (links' (turned (if_op unless) (here t) u)) (omega arith) in
      let forks = join_forked (if_op unless) x (body_linked context c) _ _ n m (of_body b) (of_body c) t first second in
      begins _ _ (n + m) (of_stmt (w.if_stmt e unless b c)) s
      (join_first (expr_linked context s.begun e (started s)) (λ t. body_linked context b (gap_added t) >>= λ u. body_linked context c (turned (if_op unless) (here t) u) >>= λ v. Ok (op_added op.EndIf (met (here u) v)))
      _ faults (n + m) (of_expr e) (fork ⨾ op_piece op.EndIf) (started s) (linked_expr context s.begun e (started s))
      (last x (λ u. body_linked context c (turned (if_op unless) (here t) u)) (λ u v. met (here u) v) (op_added op.EndIf)
      ∙ join_added _ (op_added op.EndIf) faults (n + m) fork (op_piece op.EndIf) t forks (added_op op.EndIf _)))

  linked_each : (e : w.Expr) (key : Text) (is : List ℕ) (b c : w.Body) → BodyLinks b → BodyLinks c → (s : State)
      → stmt_linked context (w.each e key is b c) s
      ≡ ended (stmt_faults_at (w.each e key is b c) s.begun) (behind (suc (count_body b + count_body c)) (of_stmt (w.each e key is b c)) s)
  linked_each e key is b c links links' s =
      let n = count_body b in
      let m = count_body c in
      let item : Piece = item_code is ⨾ (of_body b ⨾ op_piece op.EndItem) in
      let fork : ℕ → Piece = λ k. forked (op.Each k) item (of_body c) in
      let t = behind 0 (of_expr e) (started s) in
      let k = place_of t.code.names key in
      let t' = name_added key t in
      let inner : State → Step State = λ y. body_linked context b y >>= λ z. Ok (op_added op.EndItem z) in
      let x = inner (item_added is (gap_added t')) in
      let u = behind n item (gap_added t') in
      let faults : List Fault = body_faults_at b (suc s.begun) ++ body_faults_at c (suc s.begun + n) in
      let first : x ≡ ended (body_faults_at b (suc s.begun)) u =
      join_after inner (item_added is (gap_added t')) (body_faults_at b (suc s.begun)) n (item_code is) (of_body b ⨾ op_piece op.EndItem) (gap_added t') (added_op _ (gap_added t'))
      (body_then b links op.EndItem (suc s.begun) (behind 0 (item_code is) (gap_added t')) (omega arith)) in
      let second = renumbered _ (body_faults_at c) _ (suc s.begun + n) _ (links' (turned (op.Each k) (here t') u)) (omega arith) in
      let forks = join_forked (op.Each k) x (body_linked context c) _ _ n m item (of_body c) t' first second ∙ ap (λ y. ended faults y) (named_behind key (n + m) fork t) in
      begins _ _ (n + m) (of_stmt (w.each e key is b c)) s
      (join_first (expr_linked context s.begun e (started s))
      (λ t. inner (item_added is (gap_added (name_added key t))) >>= λ u. body_linked context c (turned (op.Each (place_of t.code.names key)) (here t) u) >>= λ v. Ok (op_added op.EndEach (met (here u) v)))
      _ faults (n + m) (of_expr e) (with_name key fork ⨾ op_piece op.EndEach) (started s) (linked_expr context s.begun e (started s))
      (last x (λ u. body_linked context c (turned (op.Each k) (here t') u)) (λ u v. met (here u) v) (op_added op.EndEach)
      ∙ join_added _ (op_added op.EndEach) faults (n + m) (with_name key fork) (op_piece op.EndEach) t forks (added_op op.EndEach _)))

  -- what is linked of blocks is their code, whatever is linked before
  abbrev SlotsLink : w.Slots → Type 0
  SlotsLink ss = (s : State) → slots_linked context ss s ≡ ended (slots_faults_at ss s.begun) (behind (count_slots ss) (of_slots ss) s)

  linked_component : (n : Text) (ps : List w.Part) (given : w.NamedExprs) (ss : w.Slots) → SlotsLink ss → (s : State)
      → stmt_linked context (w.component_stmt n ps given ss) s
      ≡ ended (stmt_faults_at (w.component_stmt n ps given ss) s.begun) (behind (suc (count_slots ss)) (of_stmt (w.component_stmt n ps given ss)) s)
  linked_component n ps given ss links s =
      let i = s.begun in
      let m = count_slots ss in
      let end : Piece = bare_code ss ⨾ op_piece op.Invoke in
      let invoked : State → State = λ t. op_added op.Invoke (bare_linked ss t) in
      let after_parts : State → Step State = λ t. slots_linked context ss t >>= λ u. Ok (invoked u) in
      let after_given : State → Step State = λ t. parts_linked context i ps t >>= after_parts in
      let after_class : State → Step State = λ t. arguments_linked context i given t >>= after_given in
      let invokes : (t : State) → invoked t ≡ behind 0 end t =
      λ t. ap (op_added op.Invoke) (linked_bare ss t) ∙ (added_op op.Invoke _ ∙ behind-behind 0 0 (bare_code ss) (op_piece op.Invoke) t) in
      let slots_then : (t : State) → t.begun ≡ suc i → after_parts t ≡ ended (slots_faults_at ss (suc i)) (behind m (of_slots ss ⨾ end) t) =
      λ t h. renumbered (after_parts t) (slots_faults_at ss) t.begun (suc i) _ (join_added (slots_linked context ss t) invoked _ m (of_slots ss) end t (links t) (invokes _)) h in
      let rest : Piece = of_arguments given ⨾ (of_parts ps ⨾ (of_slots ss ⨾ end)) in
      begins _ _ m (of_stmt (w.component_stmt n ps given ss)) s
      (join_known (λ q. op_where op.Comp q ⨾ rest) (class_number context.manifest n) i component_kind n (λ q. after_class (op_added (op.Comp q) (started s))) _ m (started s)
      (λ q.
      let s0 = behind 0 (op_piece (op.Comp q)) (started s) in
      let s1 = behind 0 (of_arguments given) s0 in
      let s2 = behind 0 (of_parts ps) s1 in
      join_after after_class (op_added (op.Comp q) (started s)) _ m (op_piece (op.Comp q)) rest (started s) (added_op (op.Comp q) (started s))
      (join_first (arguments_linked context i given s0) after_given _ _ m (of_arguments given) (of_parts ps ⨾ (of_slots ss ⨾ end)) s0 (linked_arguments context i given s0)
      (join_first (parts_linked context i ps s1) after_parts _ _ m (of_parts ps) (of_slots ss ⨾ end) s1 (linked_parts context i ps s1) (slots_then s2 (omega arith))))))

  -- a block, with the word that leads behind it
  abbrev of_block : Text → List ℕ → w.Body → Piece
  of_block name is b = with_name name (λ n. skipping (op.Block n) (params_code op.Param is ⨾ (of_body b ⨾ op_piece op.EndBlock)))

  linked_block : (name : Text) (is : List ℕ) (b : w.Body) → BodyLinks b → (s : State)
      → (body_linked context b (params_linked op.Param is (gap_added (name_added name s))) >>= λ y. Ok (skipped_over (op.Block (place_of s.code.names name)) (here s) (op_added op.EndBlock y)))
      ≡ ended (body_faults_at b s.begun) (behind (count_body b) (of_block name is b) s)
  linked_block name is b links s =
      let m = count_body b in
      let t = name_added name s in
      let kind = op.Block (place_of s.code.names name) in
      let inside : Piece = params_code op.Param is ⨾ (of_body b ⨾ op_piece op.EndBlock) in
      let inner : State → Step State = λ y. body_linked context b y >>= λ z. Ok (op_added op.EndBlock z) in
      let x = inner (params_linked op.Param is (gap_added t)) in
      let within = join_after inner (params_linked op.Param is (gap_added t)) _ m (params_code op.Param is) (of_body b ⨾ op_piece op.EndBlock) (gap_added t) (linked_params op.Param is (gap_added t))
      (body_then b links op.EndBlock s.begun (behind 0 (params_code op.Param is) (gap_added t)) (omega arith)) in
      sym (bind_assoc (body_linked context b (params_linked op.Param is (gap_added t))) (λ z. Ok (op_added op.EndBlock z)) (λ y. Ok (skipped_over kind (here t) y)))
      ∙ (join_skipped kind x (body_faults_at b s.begun) m inside t within
      ∙ ap (λ y. ended (body_faults_at b s.begun) y) (named_behind name m (λ n. skipping (op.Block n) inside) s))

  mutual
    linked_stmt : (x : w.Stmt) (s : State) → stmt_linked context x s ≡ ended (stmt_faults_at x s.begun) (behind (count_stmt x) (of_stmt x) s)
    linked_stmt (w.text_stmt t) s = begins _ [] 0 (text_op op.Text t) s (ap (λ u. Ok u) (added_text_op op.Text t (started s)))
    linked_stmt (w.comment_stmt t) s = begins _ [] 0 (text_op op.Comment t) s (ap (λ u. Ok u) (added_text_op op.Comment t (started s)))
    linked_stmt (w.put e) s = linked_put e s
    linked_stmt (w.element tag ps b) s = linked_element tag ps b (linked_body b) s
    linked_stmt (w.component_stmt n ps given ss) s = linked_component n ps given ss (linked_slots ss) s
    linked_stmt (w.if_stmt e unless b c) s = linked_if e unless b c (linked_body b) (linked_body c) s
    linked_stmt (w.each e key is b c) s = linked_each e key is b c (linked_body b) (linked_body c) s
    linked_stmt (w.let_stmt es is b) s = linked_let es is b (linked_body b) s
    linked_stmt (w.yield es to) s = linked_yield es to s

    pub linked_body : (b : w.Body) (s : State) → body_linked context b s ≡ ended (body_faults_at b s.begun) (behind (count_body b) (of_body b) s)
    linked_body w.end s = ap (λ t. Ok t) (sym (behind-nothing s))
    linked_body (w.stmt x b) s =
        join (stmt_linked context x s) (body_linked context b) (stmt_faults_at x s.begun) (body_faults_at b (s.begun + count_stmt x)) (count_stmt x) (count_body b) (of_stmt x) (of_body b) s (linked_stmt x s) (linked_body b _)

    linked_slots : (ss : w.Slots) (s : State) → slots_linked context ss s ≡ ended (slots_faults_at ss s.begun) (behind (count_slots ss) (of_slots ss) s)
    linked_slots w.no_slots s = ap (λ t. Ok t) (sym (behind-nothing s))
    linked_slots (w.block name is b ss) s =
        join _ (slots_linked context ss) (body_faults_at b s.begun) (slots_faults_at ss (s.begun + count_body b)) (count_body b) (count_slots ss) (of_block name is b) (of_slots ss) s (linked_block name is b (linked_body b) s) (linked_slots ss _)
