-- Files, as trees of the grammar.
use Rattle.std.specs.Prelude.{List, map, Option, Some, None}
use Rattle.cfix_base.specs.declared.Spot.{Spot}
use Rattle.c_raw.specs.declared.token.Ident.{Ident}
use Rattle.c_raw.specs.declared.file.Header.{Header}
use Rattle.c_raw.specs.declared.file.Header.TheVariants as header
use Rattle.c_raw.specs.declared.file.Replacement.{Replacement}
use Rattle.c_raw.specs.declared.file.Replacement.TheVariants as replacement
use Rattle.c_raw.specs.declared.file.Returns.{Returns}
use Rattle.c_raw.specs.declared.file.Returns.TheVariants as returns
use Rattle.c_raw.specs.declared.file.Param.{Param}
use Rattle.c_raw.specs.declared.file.Params.{Params}
use Rattle.c_raw.specs.declared.file.Params.TheVariants as params
use Rattle.c_raw.specs.declared.file.Head.{Head}
use Rattle.c_raw.specs.declared.file.Head.TheVariants as head
use Rattle.c_raw.specs.declared.file.Function.{Function}
use Rattle.c_raw.specs.declared.file.Top.{Top}
use Rattle.c_raw.specs.declared.file.Top.TheVariants as top
use Rattle.c_raw.specs.declared.file.Raw.{Raw}
use Rattle.c_raw.specs.Tokens.{ident_view, numeral_view, text_view, token_view}
use Rattle.c_raw.specs.Ops.{ops_view}
use Rattle.c_raw.specs.Decls.{globals_view, qualifiers_view}
use Rattle.c_raw.specs.Stmts.{items_view}
use Rattle.c_grammar.specs.Token as t
use Rattle.c_grammar.specs.File as g

abbrev pub header_view : Header → g.Header
header_view (header.Angled before inside after) = g.Angled before (map token_view inside) after
header_view (header.Quoted text) = g.Quoted (text_view text)

abbrev pub replacement_view : Replacement → g.Replacement
replacement_view (replacement.Plainly n) = g.Plainly (numeral_view n)
replacement_view (replacement.InParens before n after) = g.InParens before (numeral_view n) after

abbrev pub returns_view : Returns → g.Return
returns_view returns.Int = g.ReturnsInt
returns_view returns.Void = g.ReturnsVoid

abbrev pub name_view : Option Ident → Option t.Ident
name_view None = None
name_view (Some x) = Some (ident_view x)

abbrev pub param_view : Param → g.Param
param_view p = g.ParamOf p.at (name_view p.name)

-- parameters, each with the comma before it
abbrev pub more_params_view : List (Spot × Param) → List (Spot × g.Param)
more_params_view more = map (λ x. (x.0, param_view x.1)) more

abbrev pub params_view : Params → g.Params
params_view params.NoParams = g.NoParams
params_view (params.VoidParams at) = g.VoidParams at
params_view (params.SomeParams first more) = g.SomeParams (param_view first) (more_params_view more)

abbrev pub head_view : Head → g.Head
head_view (head.Plain internal returns at name before params after) = g.PlainHead internal (returns_view returns) at (ident_view name) before (params_view params) after
head_view (head.Thread internal at star name before void star2 param after) = g.ThreadHead internal at star (ident_view name) before void star2 (name_view param) after

abbrev pub function_view : Function → g.Top
function_view f = g.Function (head_view f.head) f.before (ops_view f.ops) (items_view f.items) f.after

abbrev pub top_view : Top → g.Top
top_view (top.Include at name header) = g.Include at name (header_view header)
top_view (top.Define at name defined value) = g.Define at name (ident_view defined) (replacement_view value)
top_view (top.Variables qualifiers globals end) = g.Variables (qualifiers_view qualifiers) (globals_view globals) end
top_view (top.Prototype head end) = g.Prototype (head_view head) end
top_view (top.Function f) = function_view f

-- a file as a tree of the grammar
abbrev pub file_view : Raw → g.File
file_view raw = map top_view raw.tops
