-- What a job holds may cross threads: its symbol table, and the trees and facts of its files. `search` finds none of these whole, so each
-- type that is large, or holds itself, has a lemma of its own.
use denote.Enum.Declared as enum
use denote.Struct.Declared as struct
use denote.RattleType.{RattleType}
use denote.Struct.Struct.{Struct}
use denote.Struct.Tuple.{TupleAt, type_at}
use denote.Param.Send.{IsSend, IsSync, enum_send, enum_sync, recorded_send, struct_send, struct_sync, sendable, view_send, view_sync}
use denote.Param.SendFields.{as_row_send, as_row_sync, declared_send, declared_sync}
use Rattle.std.proofs.Common.{ℕ, List, [], ◌∷◌}
use Rattle.std.proofs.Crossing.{crosses}
use Rattle.std.proofs.hash.BuildHasherDefault.TheSendSync as build
use Rattle.std.proofs.hash.FoldHasher.TheSendSync as fold
use Rattle.indexmap.proofs.map.IndexMap.TheSendSync as map
use Rattle.srb_terms.specs.contracts.fact.Fact
use Rattle.srb_terms.specs.contracts.fact.Given
use Rattle.srb_terms.specs.contracts.fact.ParamShape
use Rattle.srb_terms.specs.contracts.name.Name
use Rattle.srb_terms.specs.contracts.names.Names
use Rattle.srb_terms.specs.contracts.outline.Outline
use Rattle.srb_terms.specs.contracts.outline.SigText
use Rattle.srb_terms.specs.contracts.outline.TyText
use Rattle.srb_terms.specs.contracts.ty.Method
use Rattle.srb_terms.specs.contracts.ty.Param
use Rattle.srb_terms.specs.contracts.ty.Ty
use Rattle.srb_terms.specs.contracts.world.World
use Rattle.srb_terms.proofs.boxed.Boxed.TheSendSync as boxed
use Rattle.srb_terms.proofs.diag.Diag.TheSendSync as diag
use Rattle.srb_terms.proofs.fact.How.TheSendSync as how
use Rattle.srb_terms.proofs.fact.Kind.TheSendSync as kind
use Rattle.srb_terms.proofs.fact.ParamShape.TheSendSync as shape
use Rattle.srb_terms.proofs.items.Items.TheSendSync as items
use Rattle.srb_terms.proofs.level.Level.TheSendSync as level
use Rattle.srb_terms.proofs.name.Name.TheSendSync as name
use Rattle.srb_terms.proofs.names.Names.TheLaws.TheKnot as names
use Rattle.srb_terms.proofs.outline.Label.TheSendSync as label
use Rattle.srb_terms.proofs.outline.Outline.TheLaws.TheKnot as outline
use Rattle.srb_terms.proofs.param_kind.ParamKind.TheSendSync as param_kind
use Rattle.srb_terms.proofs.span.Span.TheSendSync as span
use Rattle.srb_terms.proofs.ty.Ty.TheLaws.TheKnot as ty
use Rattle.srb_terms.proofs.words.Words.TheSendSync as words
use Rattle.srb_text.proofs.Text.TheSendSync as text
use Rattle.rb_tree.specs.contracts.syntax.Tree
use Rattle.rb_tree.proofs.syntax.Argument.TheSendSync as argument
use Rattle.rb_tree.proofs.syntax.Arm.TheSendSync as arm
use Rattle.rb_tree.proofs.syntax.Binary.TheSendSync as binary
use Rattle.rb_tree.proofs.syntax.Block.TheSendSync as block
use Rattle.rb_tree.proofs.syntax.Dot.TheSendSync as dot
use Rattle.rb_tree.proofs.syntax.Guarded.TheSendSync as guarded
use Rattle.rb_tree.proofs.syntax.Jump.TheSendSync as jump
use Rattle.rb_tree.proofs.syntax.Modifier.TheSendSync as modifier
use Rattle.rb_tree.proofs.syntax.Node.TheLaws.TheKnot as tree
use Rattle.rb_tree.proofs.syntax.Pair.TheSendSync as pair
use Rattle.rb_tree.proofs.syntax.Parameter.TheSendSync as parameter
use Rattle.rb_tree.proofs.syntax.Piece.TheSendSync as piece
use Rattle.rb_tree.proofs.syntax.PlacedName.TheSendSync as placed
use Rattle.rb_tree.proofs.syntax.Reference.TheSendSync as reference
use Rattle.rb_tree.proofs.syntax.Rescue.TheSendSync as rescue
use Rattle.rb_tree.proofs.syntax.Sign.TheSendSync as sign
use Rattle.rb_tree.proofs.syntax.Suffix.TheSendSync as suffix
use Rattle.rb_tree.proofs.syntax.Test.TheSendSync as test
use Rattle.rb_tree.proofs.syntax.Unary.TheSendSync as unary
use Rattle.rb_tree.proofs.syntax.Visibility.TheSendSync as visibility
use Rattle.rb_tree.proofs.syntax.When.TheSendSync as when
use Rattle.srb_infer.specs.contracts.levels.Levels
use Rattle.srb_infer.proofs.levels.Levels.TheLaws.TheKnot as levels
use Rattle.srb_summary.specs.contracts.list.Summary
use Rattle.srb_check.specs.contracts.file.FileRec
use Rattle.srb_check.specs.contracts.job.Job
use Rattle.srb_check.specs.contracts.job.Job.TheInside as Inside
use Rattle.run_queues.specs.contracts.pass.ResPass
use Rattle.run_queues.specs.contracts.results.Results
use Rattle.run_queues.proofs.pass.ResPass.TheSendSync as pass
use Rattle.run_queues.proofs.results.Results.TheSendSync as results
use Rattle.run_pool.specs.contracts.job_view.JobView
use Rattle.run_pool.specs.contracts.job_view.JobViewRight.TheImpl.{ghosts}

-- boxes and lists
ruleset holders = (boxed.the_send, boxed.the_sync, items.the_send, items.the_sync, sendable)

-- the parts of a tree that hold no tree, and those that hold some, over the trees in them
ruleset parts = (
  name.the_send,
  name.the_sync,
  words.the_send,
  words.the_sync,
  span.the_field_send,
  span.the_field_sync,
  param_kind.the_send,
  param_kind.the_sync,
  binary.the_field_send,
  binary.the_field_sync,
  dot.the_send,
  dot.the_sync,
  jump.the_field_send,
  jump.the_field_sync,
  modifier.the_field_send,
  modifier.the_field_sync,
  sign.the_send,
  sign.the_sync,
  test.the_field_send,
  test.the_field_sync,
  unary.the_field_send,
  unary.the_field_sync,
  visibility.the_send,
  visibility.the_sync,
  placed.the_send,
  placed.the_sync,
  reference.the_send,
  reference.the_sync,
  argument.the_send,
  argument.the_sync,
  arm.the_send,
  arm.the_sync,
  block.the_send,
  block.the_sync,
  guarded.the_send,
  guarded.the_sync,
  pair.the_send,
  pair.the_sync,
  parameter.the_send,
  parameter.the_sync,
  piece.the_send,
  piece.the_sync,
  rescue.the_send,
  rescue.the_sync,
  suffix.the_send,
  suffix.the_sync,
  when.the_send,
  when.the_sync,
  boxed.the_send,
  boxed.the_sync,
  items.the_send,
  items.the_sync,
  sendable,
)

-- the fields of a map
ruleset maps = (map.the_send, map.the_sync, build.the_send, build.the_sync, fold.the_send, fold.the_sync, crosses, sendable)

-- ---- names and types

names_send : IsSend Names.the_row
names_send = search (names.crosses, name.the_send, name.the_sync, crosses, sendable) depth 40

names_sync : IsSync Names.the_row
names_sync = search (names.crosses, name.the_send, name.the_sync, crosses, sendable) depth 40

ty_send : IsSend Ty.the_row
ty_send = search (ty.crosses_both, name.the_send, name.the_sync, holders) depth 40

ty_sync : IsSync Ty.the_row
ty_sync = search (ty.crosses_both, name.the_send, name.the_sync, holders) depth 40

param_send : IsSend Param.the_row
param_send = declared_send Param.the_type (name.the_send, (param_kind.the_send, (ty_send, tt)))

param_sync : IsSync Param.the_row
param_sync = declared_sync Param.the_type (name.the_sync, (param_kind.the_sync, (ty_sync, tt)))

method_send : IsSend Method.the_row
method_send = declared_send Method.the_type (name.the_send, (name.the_send, (items.the_send Param.the_row param_send, (ty_send, (search sendable, tt)))))

method_sync : IsSync Method.the_row
method_sync = declared_sync Method.the_type (name.the_sync, (name.the_sync, (items.the_sync Param.the_row param_sync, (ty_sync, (search sendable, tt)))))

-- ---- the symbol table

pub world_send : IsSend World.the_row
world_send =
    let n = name.the_send in let k = kind.the_send in let ns = names_send in let t = ty_send in let m = method_send in
    declared_send World.the_type (search maps depth 40, (search maps depth 40, (search maps depth 40, (search maps depth 40, (search maps depth 40, (search maps depth 40, (search maps depth 40, (search maps depth 40, (search maps depth 40, (search maps depth 40, (search maps depth 40, tt)))))))))))

pub world_sync : IsSync World.the_row
world_sync =
    let n = name.the_sync in let k = kind.the_sync in let ns = names_sync in let t = ty_sync in let m = method_sync in
    declared_sync World.the_type (search maps depth 40, (search maps depth 40, (search maps depth 40, (search maps depth 40, (search maps depth 40, (search maps depth 40, (search maps depth 40, (search maps depth 40, (search maps depth 40, (search maps depth 40, (search maps depth 40, tt)))))))))))

-- ---- facts

outline_send : IsSend (Outline.the_field).row
outline_send = search (outline.both_send-Outline, label.the_field_send, label.the_field_sync, holders) depth 40 fits 20000

outline_sync : IsSync (Outline.the_field).row
outline_sync = search (outline.both_sync-Outline, label.the_field_send, label.the_field_sync, holders) depth 40 fits 20000

ty_text_send : IsSend (TyText.the_field).row
ty_text_send = struct_send (struct.shape TyText.the_type) (outline_send, tt)

ty_text_sync : IsSync (TyText.the_field).row
ty_text_sync = struct_sync (struct.shape TyText.the_type) (outline_sync, tt)

sig_text_send : IsSend SigText.the_row
sig_text_send = declared_send SigText.the_type (as_row_send Outline.the_field outline_send, tt)

sig_text_sync : IsSync SigText.the_row
sig_text_sync = declared_sync SigText.the_type (as_row_sync Outline.the_field outline_sync, tt)

given_send : IsSend (Given.the_field).row
given_send = enum_send (enum.shape Given.the_type) ((name.the_send, tt), ((ty_text_send, tt), (tt, tt)))

given_sync : IsSync (Given.the_field).row
given_sync = enum_sync (enum.shape Given.the_type) ((name.the_sync, tt), ((ty_text_sync, tt), (tt, tt)))

pub fact_send : IsSend Fact.the_row
fact_send =
    let s = sig_text_send in
    as_row_send Fact.the_field (enum_send (enum.shape Fact.the_type) ((name.the_send, (kind.the_field_send, tt)), ((name.the_send, (names_send, (names_send, (how.the_field_send, tt)))), ((name.the_send, (names_send, (given_send, tt))), ((name.the_send, (names_send, (search sendable, (name.the_send, (items.the_send ParamShape.the_row shape.the_send, (search sendable depth 20, tt)))))), ((name.the_send, (names_send, (search sendable, (name.the_send, (ty_text_send, tt))))), tt))))))

pub fact_sync : IsSync Fact.the_row
fact_sync =
    let s = sig_text_sync in
    as_row_sync Fact.the_field (enum_sync (enum.shape Fact.the_type) ((name.the_sync, (kind.the_field_sync, tt)), ((name.the_sync, (names_sync, (names_sync, (how.the_field_sync, tt)))), ((name.the_sync, (names_sync, (given_sync, tt))), ((name.the_sync, (names_sync, (search sendable, (name.the_sync, (items.the_sync ParamShape.the_row shape.the_sync, (search sendable depth 20, tt)))))), ((name.the_sync, (names_sync, (search sendable, (name.the_sync, (ty_text_sync, tt))))), tt))))))

-- ---- trees. A tree needs two facts for each type of a field, in the order in which these types stand first: of a type that holds trees, over
-- what stands for them.

pub tree_send : IsSend Tree.the_row
tree_send =
    as_row_send Tree.the_field (tree.both_send-Tree
    (λ h a b. search parts depth 40) (λ h a b. search parts depth 40)
    (search parts depth 40) (search parts depth 40)
    (search parts depth 40) (search parts depth 40)
    (search parts depth 40) (search parts depth 40)
    (λ h a b. search parts depth 40) (λ h a b. search parts depth 40)
    (λ a b. search parts depth 40) (λ a b. search parts depth 40)
    (search parts depth 40) (search parts depth 40)
    (λ h a b. search parts depth 40) (λ h a b. search parts depth 40)
    (λ h a b. search parts depth 40) (λ h a b. search parts depth 40)
    (search parts depth 40) (search parts depth 40)
    (λ h a b. search parts depth 40) (λ h a b. search parts depth 40)
    (search parts depth 40) (search parts depth 40)
    words.the_send words.the_sync
    (λ h a b. search parts depth 40) (λ h a b. search parts depth 40)
    name.the_send name.the_sync
    (λ h a b. search parts depth 40) (λ h a b. search parts depth 40)
    (λ h a b. search parts depth 40) (λ h a b. search parts depth 40)
    (search parts depth 40) (search parts depth 40)
    (λ h a b. search parts depth 40) (λ h a b. search parts depth 40)
    (λ h a b. search parts depth 40) (λ h a b. search parts depth 40)
    (λ h a b. search parts depth 40) (λ h a b. search parts depth 40)
    (search parts depth 40) (search parts depth 40)
    (search parts depth 40) (search parts depth 40)
    (search parts depth 40) (search parts depth 40)
    (search parts depth 40) (search parts depth 40)
    (λ h a b. search parts depth 40) (λ h a b. search parts depth 40)
    (λ h a b. search parts depth 40) (λ h a b. search parts depth 40))

pub tree_sync : IsSync Tree.the_row
tree_sync =
    as_row_sync Tree.the_field (tree.both_sync-Tree
    (λ h a b. search parts depth 40) (λ h a b. search parts depth 40)
    (search parts depth 40) (search parts depth 40)
    (search parts depth 40) (search parts depth 40)
    (search parts depth 40) (search parts depth 40)
    (λ h a b. search parts depth 40) (λ h a b. search parts depth 40)
    (λ a b. search parts depth 40) (λ a b. search parts depth 40)
    (search parts depth 40) (search parts depth 40)
    (λ h a b. search parts depth 40) (λ h a b. search parts depth 40)
    (λ h a b. search parts depth 40) (λ h a b. search parts depth 40)
    (search parts depth 40) (search parts depth 40)
    (λ h a b. search parts depth 40) (λ h a b. search parts depth 40)
    (search parts depth 40) (search parts depth 40)
    words.the_send words.the_sync
    (λ h a b. search parts depth 40) (λ h a b. search parts depth 40)
    name.the_send name.the_sync
    (λ h a b. search parts depth 40) (λ h a b. search parts depth 40)
    (λ h a b. search parts depth 40) (λ h a b. search parts depth 40)
    (search parts depth 40) (search parts depth 40)
    (λ h a b. search parts depth 40) (λ h a b. search parts depth 40)
    (λ h a b. search parts depth 40) (λ h a b. search parts depth 40)
    (λ h a b. search parts depth 40) (λ h a b. search parts depth 40)
    (search parts depth 40) (search parts depth 40)
    (search parts depth 40) (search parts depth 40)
    (search parts depth 40) (search parts depth 40)
    (search parts depth 40) (search parts depth 40)
    (λ h a b. search parts depth 40) (λ h a b. search parts depth 40)
    (λ h a b. search parts depth 40) (λ h a b. search parts depth 40))

-- ---- files and jobs

summary_send : IsSend Summary.the_row
summary_send = let f = fact_send in let g = fact_sync in search holders depth 20

summary_sync : IsSync Summary.the_row
summary_sync = let f = fact_send in let g = fact_sync in search holders depth 20

file_send : IsSend FileRec.the_row
file_send =
    let t = tree_send in
    declared_send FileRec.the_type (search (text.the_send, sendable) depth 20, (level.the_send, (search (diag.the_send, sendable) depth 20, (search sendable depth 20, (summary_send, tt)))))

file_sync : IsSync FileRec.the_row
file_sync =
    let t = tree_sync in
    declared_sync FileRec.the_type (search (text.the_sync, sendable) depth 20, (level.the_sync, (search (diag.the_sync, sendable) depth 20, (search sendable depth 20, (summary_sync, tt)))))

levels_send : IsSend Levels.the_row
levels_send = search (levels.crosses, crosses, sendable) depth 40

levels_sync : IsSync Levels.the_row
levels_sync = search (levels.crosses, crosses, sendable) depth 40

inside_send : IsSend Inside.the_row
inside_send =
    let w = world_send in let v = world_sync in let f = file_send in let g = file_sync in
    declared_send Inside.the_type (search holders depth 20, (levels_send, (items.the_send Name.the_row name.the_send, (search holders depth 20, tt))))

inside_sync : IsSync Inside.the_row
inside_sync =
    let w = world_send in let v = world_sync in let f = file_send in let g = file_sync in
    declared_sync Inside.the_type (search holders depth 20, (levels_sync, (items.the_sync Name.the_row name.the_sync, (search holders depth 20, tt))))

pub job_send : IsSend Job.the_row
job_send = view_send _ _ _ _ _ inside_send

pub job_sync : IsSync Job.the_row
job_sync = view_sync _ _ _ _ _ inside_sync

job_view_send : IsSend JobView.the_row
job_view_send = let s = job_send in let y = job_sync in search (boxed.the_send, sendable) depth 20

pub pass_send : IsSend (ResPass.the_row JobView.the_row ghosts)
pass_send = pass.the_send JobView.the_row ghosts job_view_send

pub results_sync : IsSync (Results.the_row JobView.the_row ghosts)
results_sync = results.the_sync JobView.the_row ghosts job_view_send

-- ---- closures

-- a closure over eight captures may be sent where each of them may
pub closure_send : (name : List ℕ) (A B C D E F G H : RattleType) → IsSend A → IsSend B → IsSend C → IsSend D → IsSend E → IsSend F → IsSend G → IsSend H
    → IsSend (TupleAt name (A ∷ B ∷ C ∷ D ∷ E ∷ F ∷ G ∷ H ∷ []))
closure_send name A B C D E F G H a b c d e f g h =
    let T = type_at name (A ∷ B ∷ C ∷ D ∷ E ∷ F ∷ G ∷ H ∷ []) in
    recorded_send (Struct (struct.shape T)) T.D T.to T.to_one (struct_send (struct.shape T) (a, (b, (c, (d, (e, (f, (g, (h, tt)))))))))

-- a closure over seven captures may be sent where each of them may
pub seven_send : (name : List ℕ) (A B C D E F G : RattleType) → IsSend A → IsSend B → IsSend C → IsSend D → IsSend E → IsSend F → IsSend G
    → IsSend (TupleAt name (A ∷ B ∷ C ∷ D ∷ E ∷ F ∷ G ∷ []))
seven_send name A B C D E F G a b c d e f g =
    let T = type_at name (A ∷ B ∷ C ∷ D ∷ E ∷ F ∷ G ∷ []) in
    recorded_send (Struct (struct.shape T)) T.D T.to T.to_one (struct_send (struct.shape T) (a, (b, (c, (d, (e, (f, (g, tt))))))))
