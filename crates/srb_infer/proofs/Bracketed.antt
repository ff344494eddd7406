-- What is known of arguments in brackets.
use Rattle.std.proofs.Common.{◌≡◌, List, Option, Some, None, refl}
use Rattle.rb_tree.specs.declared.syntax.Argument.{Argument}
use Rattle.rb_tree.specs.declared.syntax.Tree.{Tree}
use Rattle.rb_views.specs.Calls.{arguments_of}
use Rattle.srb_judgement.specs.Languages.{Language}
use Rattle.srb_walk.specs.Known.{known_arguments, known_brackets}

pub brackets_are : {T X : Type 0} (L : Language T X) (brackets : Option (List (Argument Tree))) →
    known_arguments L (arguments_of brackets) ≡ arguments_of (known_brackets L brackets)
brackets_are L None = refl
brackets_are L (Some row) = refl
