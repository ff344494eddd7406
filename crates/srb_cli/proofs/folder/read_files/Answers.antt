use Rattle.std.proofs.Common.{◌≤◌, length, refl, ap, ◌∙◌, subst, arith, map, string_bytes}
use Rattle.srb_cli.specs.Folders.{IsTold, IsFileUnread}
use Rattle.srb_terms.specs.Projects.{put_file}
use Rattle.srb_cli.proofs.Folders.{read_none, read_more, read_all, read_within, stopped, next_path, no_path_left, few_texts}
use Rattle.srb_cli.proofs.folder.read_files.Goals as goal

pub paths-init : goal.paths-init
paths-init g c = record {
  read = read_none _ _ _ _ _ c.new-project.ensures refl refl;
  same_told = refl;
  unfailed = refl;
}

pub paths-preserved : goal.paths-preserved
paths-preserved g c =
    let there = subst (λ t. IsTold (t c.args.dir.now) (c.as_str-path.result.now, c.in-Ok.bytes.items)) c.paths.invariant.same_told c.in-Ok.ensures.there in
    let fits : length c.in-Ok.bytes.items ≤ c.paths.room = omega (arith, c.in-Ok.ensures.within) in
    record {
      read = read_more _ _ _ _ c.as_str-path.result.now c.in-Ok.bytes.items _ _ _ _ c.requires.ordered
          (next_path c.args.paths.now c.paths.path-index c.path-item.result c.as_str-path.result.now (omega arith) c.path-item.is c.as_str-path.ensures.value)
          c.paths.invariant.read there fits (omega arith)
          (c.in-Ok-put.ensures.ok ∙ ap (λ n. put_file n c.in-Ok.bytes.items c.paths.project) c.in-Ok-from_str.ensures);
      same_told = c.read_file.ensures.told ∙ c.paths.invariant.same_told;
      unfailed = c.in-Ok.ensures.unfailed ∙ c.paths.invariant.unfailed;
    }

pub returns-clause-within : goal.returns-clause-within
returns-clause-within g c =
    let few : length (map string_bytes c.args.paths.now) ≤ 4096 = few_texts c.args.paths.now c.requires.few in
    read_within _ _ _ _ _ few (no_path_left c.args.paths.now c.paths.path-index (omega arith)) c.paths.invariant.read

pub returns-clause-folder : goal.returns-clause-folder
returns-clause-folder g c =
    read_all _ _ _ _ _ c.requires.ordered c.requires.listed (no_path_left c.args.paths.now c.paths.path-index (omega arith)) c.paths.invariant.read

pub returns-in-Err-clause-unread : goal.returns-in-Err-clause-unread
returns-in-Err-clause-unread g c =
    let few : length (map string_bytes c.args.paths.now) ≤ 4096 = few_texts c.args.paths.now c.requires.few in
    let why = subst (λ t. IsFileUnread c.in-Err.cause (t c.args.dir.now) c.as_str-path.result.now c.paths.room (g.F.Files.faults c.paths.files) (g.F.Files.faults c.read_file.new.files)) c.paths.invariant.same_told c.in-Err.ensures.unread in
    stopped c.in-Err.cause _ _ _ _ _ _ _ _ _ _ c.requires.ordered c.requires.listed few
    (next_path c.args.paths.now c.paths.path-index c.path-item.result c.as_str-path.result.now (omega arith) c.path-item.is c.as_str-path.ensures.value)
    c.paths.invariant.read c.paths.invariant.unfailed why
