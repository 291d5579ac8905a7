-- Whether a wire has JSON in version 1: whether its components have at most the block `default`, and its yields name that.
use Rattle.std.specs.Prelude.{Bool, true, false, ◌&&◌, codes}
use Rattle.std.specs.Str.{bytes_eq}
use Rattle.gl_base.specs.Texts.{Text}
use Rattle.gl_wire.specs.Wire.{Stmt, text_stmt, comment_stmt, put, element, component_stmt, if_stmt, each, let_stmt, yield, Body, end, stmt, Slots, no_slots, block, Wire}

abbrev pub is_default : Text → Bool
is_default name = bytes_eq (codes "default") name

abbrev mutual
  pub is_unnamed_stmt : Stmt → Bool
  is_unnamed_stmt (text_stmt s) = true
  is_unnamed_stmt (comment_stmt s) = true
  is_unnamed_stmt (put e) = true
  is_unnamed_stmt (element tag ps b) = is_unnamed_body b
  is_unnamed_stmt (component_stmt c ps es ss) = is_unnamed_slots ss
  is_unnamed_stmt (if_stmt e unless b c) = is_unnamed_body b && is_unnamed_body c
  is_unnamed_stmt (each e key is b c) = is_unnamed_body b && is_unnamed_body c
  is_unnamed_stmt (let_stmt es is b) = is_unnamed_body b
  is_unnamed_stmt (yield es to) = is_default to

  pub is_unnamed_body : Body → Bool
  is_unnamed_body end = true
  is_unnamed_body (stmt s b) = is_unnamed_stmt s && is_unnamed_body b

  pub is_unnamed_slots : Slots → Bool
  is_unnamed_slots no_slots = true
  is_unnamed_slots (block name is b no_slots) = is_default name && is_unnamed_body b
  is_unnamed_slots (block name is b (block other js c ss)) = false

abbrev pub is_unnamed : Wire → Bool
is_unnamed w = is_unnamed_body w.body
