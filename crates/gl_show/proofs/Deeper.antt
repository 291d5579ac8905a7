-- What can be spelled can be spelled where more may nest.
use Rattle.std.proofs.Common.{inl, inr, ℕ, zero, suc}
use Rattle.gl_ast.specs.Template.{Stmt, text_stmt, comment_stmt, put, element, component_stmt, if_stmt, each, let_stmt, yield, Body, end, stmt, Slots, no_slots, block}
use Rattle.gl_show.specs.Spellable.{CanBody, CanStmt, CanSlots, CanBlocks}

mutual
  pub deeper_body : (depth : ℕ) (b : Body) → CanBody depth b → CanBody (suc depth) b
  deeper_body depth end can = tt
  deeper_body depth (stmt s b) can = (deeper_stmt depth s can.0, deeper_body depth b can.1)

  deeper_stmt : (depth : ℕ) (s : Stmt) → CanStmt depth s → CanStmt (suc depth) s
  deeper_stmt depth (text_stmt s) can = can
  deeper_stmt depth (comment_stmt s) can = can
  deeper_stmt depth (put e) can = can
  deeper_stmt depth (yield es to) can = can
  deeper_stmt zero (element tag ps b) can = absurd can
  deeper_stmt zero (component_stmt c ps given ss) can = absurd can
  deeper_stmt zero (if_stmt e unless b c) can = absurd can
  deeper_stmt zero (each e key ns b c) can = absurd can
  deeper_stmt zero (let_stmt es ns b) can = absurd can
  deeper_stmt (suc depth) (element tag ps b) can = (can.0, can.1, can.2, deeper_body depth b can.3)
  deeper_stmt (suc depth) (component_stmt c ps given ss) can = (can.0, can.1, can.2, deeper_slots depth ss can.3)
  deeper_stmt (suc depth) (if_stmt e unless b c) can = (can.0, deeper_body depth b can.1, deeper_body depth c can.2)
  deeper_stmt (suc depth) (each e key ns b c) can = (can.0, can.1, can.2, can.3, deeper_body depth b can.4, deeper_body depth c can.5)
  deeper_stmt (suc depth) (let_stmt es ns b) can = (can.0, can.1, can.2, deeper_body depth b can.3)

  deeper_slots : (depth : ℕ) (ss : Slots) → CanSlots depth ss → CanSlots (suc depth) ss
  deeper_slots depth no_slots can = tt
  deeper_slots zero (block name ns b ss) can = inl (can.0, can.1, deeper_body zero b can.2)
  deeper_slots (suc depth) (block name ns b ss) (inl can) = inl (can.0, can.1, deeper_body (suc depth) b can.2)
  deeper_slots (suc depth) (block name ns b ss) (inr can) = inr (can.0, can.1, can.2, deeper_body depth b can.3, deeper_blocks depth ss can.4)

  deeper_blocks : (depth : ℕ) (ss : Slots) → CanBlocks depth ss → CanBlocks (suc depth) ss
  deeper_blocks depth no_slots can = tt
  deeper_blocks depth (block name ns b ss) can = (can.0, can.1, deeper_body depth b can.2, deeper_blocks depth ss can.3)
