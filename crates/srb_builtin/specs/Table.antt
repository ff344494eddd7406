-- The built-in table: its classes, with their superclasses and the modules that they include, then its modules, and then their methods,
-- in the order of the specification.
use Rattle.std.specs.Prelude.{ℕ, List, [], ◌∷◌, ◌++◌, codes}
use Rattle.srb_terms.specs.declared.fact.Fact.{Fact}
use Rattle.srb_terms.specs.declared.fact.Fact.TheVariants.{Scope, Parent}
use Rattle.srb_terms.specs.declared.fact.How.{How}
use Rattle.srb_terms.specs.declared.fact.How.TheVariants as how
use Rattle.srb_terms.specs.declared.fact.Kind.{Kind}
use Rattle.srb_terms.specs.declared.fact.Kind.TheVariants as kind
use Rattle.srb_builtin.specs.Methods.{methods_in}

-- a class or module has this full name
abbrev pub declares : List ℕ → Kind → Fact
declares name kind = Scope name kind

-- the class refers to the class or module of one name, which is looked up from the scope
abbrev pub refers : List ℕ → List (List ℕ) → List ℕ → How → Fact
refers of scope to how = Parent of scope (to ∷ []) how

-- a class without a superclass
abbrev pub top : List ℕ → List Fact
top name = declares name kind.Class ∷ []

-- a class with its superclass, as `class Name < Superclass` at the program's level
abbrev pub class : List ℕ → List ℕ → List Fact
class name superclass = declares name kind.Class ∷ refers name [] superclass how.Super ∷ []

-- a class for which no superclass is named: it is `Object`
abbrev pub object_class : List ℕ → List Fact
object_class name = class name (codes "Object")

-- a module that the class includes, as `include Mixin` in the body of the class
abbrev pub includes : List ℕ → List ℕ → List Fact
includes name mixin = refers name (name ∷ []) mixin how.Include ∷ []

-- a module
abbrev pub a_module : List ℕ → List Fact
a_module name = declares name kind.Module ∷ []

-- the facts of some rows, in order
abbrev pub all_of : List (List Fact) → List Fact
all_of [] = []
all_of (row ∷ rows) = row ++ all_of rows

-- the facts of the table
unfoldable pub built_in : List Fact
built_in = all_of (
    top (codes "BasicObject")
    ∷ class (codes "Object") (codes "BasicObject") ∷ includes (codes "Object") (codes "Kernel")
    ∷ object_class (codes "Module")
    ∷ class (codes "Class") (codes "Module")
    ∷ object_class (codes "NilClass")
    ∷ object_class (codes "TrueClass")
    ∷ object_class (codes "FalseClass")
    ∷ object_class (codes "Numeric") ∷ includes (codes "Numeric") (codes "Comparable")
    ∷ class (codes "Integer") (codes "Numeric")
    ∷ class (codes "Float") (codes "Numeric")
    ∷ object_class (codes "String") ∷ includes (codes "String") (codes "Comparable")
    ∷ object_class (codes "Symbol") ∷ includes (codes "Symbol") (codes "Comparable")
    ∷ object_class (codes "Array") ∷ includes (codes "Array") (codes "Enumerable")
    ∷ object_class (codes "Hash") ∷ includes (codes "Hash") (codes "Enumerable")
    ∷ object_class (codes "Proc")
    ∷ object_class (codes "Exception")
    ∷ class (codes "ScriptError") (codes "Exception")
    ∷ class (codes "StandardError") (codes "Exception")
    ∷ class (codes "NotImplementedError") (codes "ScriptError")
    ∷ class (codes "RuntimeError") (codes "StandardError")
    ∷ class (codes "ArgumentError") (codes "StandardError")
    ∷ class (codes "TypeError") (codes "StandardError")
    ∷ class (codes "NameError") (codes "StandardError")
    ∷ class (codes "IndexError") (codes "StandardError")
    ∷ class (codes "ZeroDivisionError") (codes "StandardError")
    ∷ class (codes "NoMethodError") (codes "NameError")
    ∷ class (codes "KeyError") (codes "IndexError")
    ∷ a_module (codes "Kernel")
    ∷ a_module (codes "Comparable")
    ∷ a_module (codes "Enumerable")
    ∷ a_module (codes "T")
    ∷ a_module (codes "T::Sig")
    ∷ a_module (codes "T::Helpers")
    ∷ methods_in (codes "BasicObject") (codes "`initialize` u; `== equal?`(u) b")
    ∷ methods_in (codes "Kernel") (codes "`class` Class; `nil? frozen? block_given?` b")
    ∷ methods_in (codes "Kernel") (codes "`is_a? kind_of? instance_of?`(Module) b; `respond_to?`(u, ?u) b; `===`(u) b")
    ∷ methods_in (codes "Kernel") (codes "`<=>`(u) T.nilable(Integer); `to_s inspect` String; `hash object_id` Integer")
    ∷ methods_in (codes "Kernel") (codes "`freeze dup` self; `tap` {self} self; `puts print`(*u) NilClass; `p send`(*u) u")
    ∷ methods_in (codes "Kernel") (codes "`raise`(*u) T.noreturn; `require require_relative`(String) b")
    ∷ methods_in (codes "Kernel") (codes "`format`(String, *u) String; `loop` {} u; `lambda proc` {} Proc")
    ∷ methods_in (codes "Kernel") (codes "`__method__` T.nilable(Symbol)")
    ∷ methods_in (codes "Module") (codes "`name` T.nilable(String); `const_get`(u) u")
    ∷ methods_in (codes "Module") (codes "`private protected public private_class_method private_constant module_function`(*u) u")
    ∷ methods_in (codes "Class") (codes "`superclass` T.nilable(Class)")
    ∷ methods_in (codes "T::Helpers") (codes "`abstract! interface! final! sealed!` u")
    ∷ methods_in (codes "Comparable") (codes "`< > <= >=`(u) b; `between?`(u, u) b; `clamp`(u, u) u")
    ∷ methods_in (codes "NilClass") (codes "`to_a` T::Array[u]; `to_i` Integer")
    ∷ methods_in (codes "TrueClass") (codes "`& | ^`(u) b")
    ∷ methods_in (codes "FalseClass") (codes "`& | ^`(u) b")
    ∷ methods_in (codes "Numeric") (codes "`< > <= >=`(Numeric) b; `zero? positive? negative?` b; `to_i` Integer; `to_f` Float")
    ∷ methods_in (codes "Numeric") (codes "`abs -@ +@` self")
    ∷ methods_in (codes "Integer") (codes "`+ - * / % **`(Numeric) N; `& | ^ << >>`(Integer) Integer; `~ succ pred` Integer")
    ∷ methods_in (codes "Integer") (codes "`even? odd?` b; `chr` String; `to_s`(?Integer) String; `digits` T::Array[Integer]")
    ∷ methods_in (codes "Integer") (codes "`times` {Integer} Integer; `upto downto`(Integer) {Integer} Integer")
    ∷ methods_in (codes "Float") (codes "`+ - * / % **`(Numeric) Float; `floor ceil` Integer; `round`(?Integer) u; `nan?` b")
    ∷ methods_in (codes "String") (codes "`+`(String) String; `*`(Integer) String; `% <<`(u) String; `length size` Integer")
    ∷ methods_in (codes "String") (codes "`upcase downcase capitalize strip reverse` String; `empty?` b; `include?`(String) b")
    ∷ methods_in (codes "String") (codes "`start_with? end_with?`(*String) b; `to_i`(?Integer) Integer; `to_f` Float")
    ∷ methods_in (codes "String") (codes "`to_sym` Symbol; `split`(?String, ?Integer) T::Array[String]")
    ∷ methods_in (codes "String") (codes "`chars lines` T::Array[String]; `[]`(u, ?u) T.nilable(String)")
    ∷ methods_in (codes "String") (codes "`sub gsub`(u, u) String; `index`(String, ?Integer) T.nilable(Integer)")
    ∷ methods_in (codes "String") (codes "`center ljust rjust`(Integer, ?String) String; `chomp`(?String) String")
    ∷ methods_in (codes "String") (codes "`each_char` {String} self")
    ∷ methods_in (codes "Symbol") (codes "`to_sym` Symbol; `to_proc` Proc; `length size` Integer")
    ∷ methods_in (codes "Proc") (codes "`call`(*u) u; `arity` Integer; `to_proc` Proc")
    ∷ methods_in (codes "Exception") (codes "`initialize`(?u) u; `message full_message` String")
    ∷ methods_in (codes "Exception") (codes "`backtrace` T.nilable(T::Array[String])")
    ∷ methods_in (codes "Array") (codes "`[]`(Integer) T.nilable(E); `[]=`(Integer, E) E; `<<`(E) self")
    ∷ methods_in (codes "Array") (codes "`push unshift`(*E) self; `pop shift first last min max` T.nilable(E)")
    ∷ methods_in (codes "Array") (codes "`length size` Integer; `count` {E} Integer; `empty?` b; `include?`(u) b")
    ∷ methods_in (codes "Array") (codes "`index`(u) T.nilable(Integer); `+ concat`(T::Array[u]) T::Array[u]; `each` {E} self")
    ∷ methods_in (codes "Array") (codes "`each_with_index` {E, Integer} self; `each_slice`(Integer) {T::Array[E]} self")
    ∷ methods_in (codes "Array") (codes "`map` {E} T::Array[B]; `flat_map` {E} T::Array[u]")
    ∷ methods_in (codes "Array") (codes "`select filter reject sort_by` {E} T::Array[E]")
    ∷ methods_in (codes "Array") (codes "`find detect min_by max_by` {E} T.nilable(E); `any? all? none?` {E} b")
    ∷ methods_in (codes "Array") (codes "`group_by` {E} T::Hash[B,T::Array[E]]; `sum` {E} u; `inject reduce`(?u, ?u) {u, u} u")
    ∷ methods_in (codes "Array") (codes "`join`(?String) String; `reverse sort uniq to_a` T::Array[E]")
    ∷ methods_in (codes "Array") (codes "`compact` T::Array[E without NilClass]; `take drop`(Integer) T::Array[E]")
    ∷ methods_in (codes "Array") (codes "`delete`(u) T.nilable(E); `flatten zip`(*u) T::Array[u]; `to_h` T::Hash[u,u]")
    ∷ methods_in (codes "Array") (codes "`clear` self")
    ∷ methods_in (codes "Hash") (codes "`[]`(K) T.nilable(V); `[]=`(K, V) V; `fetch`(K, ?V) V; `delete`(K) T.nilable(V)")
    ∷ methods_in (codes "Hash") (codes "`key? has_key? include? value?`(u) b; `keys` T::Array[K]; `values` T::Array[V]")
    ∷ methods_in (codes "Hash") (codes "`each each_pair` {K, V} self; `each_key` {K} self; `each_value` {V} self")
    ∷ methods_in (codes "Hash") (codes "`map` {K, V} T::Array[B]; `select filter reject` {K, V} self; `any? all?` {K, V} b")
    ∷ methods_in (codes "Hash") (codes "`find` {K, V} u; `sort_by` {K, V} T::Array[u]; `transform_values` {V} T::Hash[K,B]")
    ∷ methods_in (codes "Hash") (codes "`merge`(T::Hash[u,u]) T::Hash[u,u]; `length size` Integer; `count` {K, V} Integer")
    ∷ methods_in (codes "Hash") (codes "`empty?` b; `dig`(*u) u; `to_a` T::Array[u]; `to_h` self; `clear` self")
    ∷ [])
