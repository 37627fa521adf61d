-- The canonical text of a program: lines that end with a line feed, four spaces a nesting.
use Rattle.std.specs.Prelude.{ℕ, List, [], ◌∷◌, ◌++◌, map, codes, decimal, if◌then◌else◌}
use Rattle.std.specs.Fmt.{signed_decimal}
use Rattle.std.specs.Str.{bytes_eq}
use Rattle.cfix_base.specs.declared.number.OrderId.{OrderId}
use Rattle.c_prog.specs.declared.function.FnKind.{FnKind}
use Rattle.c_prog.specs.declared.function.FnKind.TheVariants as gives
use Rattle.c_prog.specs.declared.function.Function.{Function}
use Rattle.c_prog.specs.declared.global.Global.{Global}
use Rattle.c_prog.specs.declared.global.GlobalKind.{GlobalKind}
use Rattle.c_prog.specs.declared.global.GlobalKind.TheVariants as kind
use Rattle.c_prog.specs.declared.tree.Tree.{Tree}
use Rattle.c_prog.specs.Order.{joined}
use Rattle.c_prog.specs.Patched.{tree_patched}
use Rattle.c_print.specs.Text.Names.{names_in, name_at}
use Rattle.c_print.specs.Text.Pieces.{between, ended, in_parentheses, in_brackets, braced, spaced, apart, text_of}
use Rattle.c_print.specs.Text.Operations.{op_lines}
use Rattle.c_print.specs.Text.Statements.{body_lines}

-- an order that begins with a token
abbrev pub start_line : OrderId → List ℕ
start_line order = codes "#define CFIX_START_" ++ decimal order.number ++ codes " 1"

-- what a program that has a start or an operation includes
abbrev pub own_lines : Tree → List (List ℕ)
own_lines tree =
    if tree_patched tree then map start_line tree.starts ++ (codes "#include " ++ 34 ∷ codes "cfix.h" ++ 34 ∷ []) ∷ [] else []

abbrev pub header_lines : Tree → List (List ℕ)
header_lines tree = codes "#include <pthread.h>" ∷ codes "#include <stdio.h>" ∷ own_lines tree

-- a global variable of this name
abbrev pub global_text : List ℕ → GlobalKind → List ℕ
global_text name (kind.Int initial) = codes "int " ++ name ++ codes " = " ++ signed_decimal initial
global_text name (kind.IntArray n) = codes "int " ++ name ++ in_brackets (decimal n)
global_text name kind.Thread = codes "pthread_t " ++ name
global_text name (kind.ThreadArray n) = codes "pthread_t " ++ name ++ in_brackets (decimal n)
global_text name kind.Mutex = codes "pthread_mutex_t " ++ name ++ codes " = PTHREAD_MUTEX_INITIALIZER"
global_text name kind.Cond = codes "pthread_cond_t " ++ name ++ codes " = PTHREAD_COND_INITIALIZER"

abbrev pub global_line : Global → List ℕ
global_line global = ended (global_text global.name global.kind)

-- the parameters of a function that is no thread's
abbrev pub params_text : List (List ℕ) → List ℕ
params_text [] = codes "void"
params_text (param ∷ more) = between (codes ", ") (map (λ name. codes "int " ++ name) (param ∷ more))

-- the head of a function, by what it gives back (6.7.6.3 of ISO/IEC 9899:2011)
abbrev pub head_text : FnKind → List ℕ → List (List ℕ) → List ℕ
head_text gives.Int name params = codes "int " ++ name ++ in_parentheses (params_text params)
head_text gives.Void name params = codes "void " ++ name ++ in_parentheses (params_text params)
head_text gives.Thread name params = codes "void *" ++ name ++ in_parentheses (codes "void *" ++ name_at params 0)

abbrev pub head_of : Function → List ℕ
head_of function = head_text function.kind function.name function.params

-- the prototype of a function, if it is not main
abbrev pub prototype_lines : Function → List (List ℕ)
prototype_lines function = if bytes_eq function.name (codes "main") then [] else ended (head_of function) ∷ []

-- a function of a program: its head, the operations of its start, its statements
abbrev pub function_lines : Tree → Function → List (List ℕ)
function_lines tree function =
    braced (head_of function ++ codes " ") (op_lines function.start ++ body_lines (names_in tree function) function.body)

-- the lines of a program: header, globals, prototypes, functions
abbrev pub tree_lines : Tree → List (List ℕ)
tree_lines tree =
    spaced (header_lines tree) ++ spaced (map global_line tree.globals) ++ spaced (joined (map prototype_lines tree.functions))
    ++ apart (map (function_lines tree) tree.functions)

-- the canonical text of a program
unfoldable pub canonical : Tree → List ℕ
canonical tree = text_of (tree_lines tree)
