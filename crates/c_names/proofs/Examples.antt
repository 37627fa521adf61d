-- The faults of small texts, row by row, and an accepted neighbour beside each.
use Rattle.std.proofs.Common.{◌≡◌, ℕ, List, [], ◌∷◌, Option, Some, None, refl, codes}
use Rattle.c_lex.specs.Faults.{spot_behind, tokens_of}
use Rattle.c_lex.specs.Reading.{pieces_at}
use Rattle.c_reading.specs.Reader.{Out, Got, Stop}
use Rattle.c_reading.specs.ReadCond.{inner_at, cond_at}
use Rattle.c_reading.specs.ReadDecl.{local_at, decl_at, loop_int_at}
use Rattle.c_reading.specs.ReadExpr.{unary_at, expr_at, prefix_at, index_at, paren_at}
use Rattle.c_reading.specs.ReadFile.{read_file}
use Rattle.c_reading.specs.ReadSimple.{value_at, plain_at, thread_arg_at, library_at, simple_at}
use Rattle.c_reading.specs.ReadStmt.{stmt_at}
use Rattle.c_grammar.specs.File.{File}
use Rattle.c_grammar.specs.Token.{Token}
use Rattle.c_prog.proofs.ValidEquations.{valid_steps}
use Rattle.c_names.specs.declared.fault.Fault.{Fault}
use Rattle.c_names.specs.declared.fault.FaultKind.{FaultKind}
use Rattle.c_names.specs.declared.fault.FaultKind.TheVariants.{Unknown, Twice, Arity, WrongUse, NoReturn, RootCalled, Reserved, Limit}
use Rattle.c_names.specs.Faults.{noted, noted_all}
use Rattle.c_names.specs.Files.{faults_of}
use Rattle.c_grammar.specs.Lexical.{tokens_read}

-- the file that is read
abbrev file_in : Out Token File → File
file_in (Got file rest) = file
file_in (Stop fault rest) = []

-- the least fault of a text that is a file of the grammar: its kind, and the byte and the line at which it stands
abbrev told : Option Fault → List (FaultKind × ℕ × ℕ)
told None = []
told (Some f) = (f.kind, f.spot.at, f.spot.line) ∷ []

abbrev least : List ℕ → List (FaultKind × ℕ × ℕ)
least text = told (noted_all None (faults_of (spot_behind text) (file_in (read_file 200 (tokens_read (tokens_of (pieces_at 0 text)))))))

-- Unknown
case1 : least (codes "int main(void) { y = 1; }") ≡ (Unknown, 17, 1) ∷ []
unfolding pieces_at read_file stmt_at cond_at inner_at loop_int_at decl_at local_at simple_at library_at thread_arg_at plain_at value_at paren_at index_at prefix_at expr_at unary_at noted
case1 = refl

case2 : least (codes "int y; int main(void) { y = 1; }") ≡ []
unfolding pieces_at read_file stmt_at cond_at inner_at loop_int_at decl_at local_at simple_at library_at thread_arg_at plain_at value_at paren_at index_at prefix_at expr_at unary_at noted
case2 = refl

case3 : least (codes "int x; int main(void) { x = y[0]; }") ≡ (Unknown, 28, 1) ∷ []
unfolding pieces_at read_file stmt_at cond_at inner_at loop_int_at decl_at local_at simple_at library_at thread_arg_at plain_at value_at paren_at index_at prefix_at expr_at unary_at noted
case3 = refl

case4 : least (codes "int main(void) { f(); }") ≡ (Unknown, 17, 1) ∷ []
unfolding pieces_at read_file stmt_at cond_at inner_at loop_int_at decl_at local_at simple_at library_at thread_arg_at plain_at value_at paren_at index_at prefix_at expr_at unary_at noted
case4 = refl

case5 : least (codes "int f(void); int main(void) { }") ≡ (Unknown, 4, 1) ∷ []
unfolding pieces_at read_file stmt_at cond_at inner_at loop_int_at decl_at local_at simple_at library_at thread_arg_at plain_at value_at paren_at index_at prefix_at expr_at unary_at noted
case5 = refl

case6 : least (codes "int f; int f(void); int main(void) { }") ≡ (Unknown, 11, 1) ∷ []
unfolding pieces_at read_file stmt_at cond_at inner_at loop_int_at decl_at local_at simple_at library_at thread_arg_at plain_at value_at paren_at index_at prefix_at expr_at unary_at noted
case6 = refl

case7 : least (codes "void f(void); int main(void) { } void f(void) { }") ≡ []
unfolding pieces_at read_file stmt_at cond_at inner_at loop_int_at decl_at local_at simple_at library_at thread_arg_at plain_at value_at paren_at index_at prefix_at expr_at unary_at noted
case7 = refl

case8 : least (codes "int x;") ≡ (Unknown, 6, 1) ∷ []
unfolding pieces_at read_file stmt_at cond_at inner_at loop_int_at decl_at local_at simple_at library_at thread_arg_at plain_at value_at paren_at index_at prefix_at expr_at unary_at noted
case8 = refl

case9 : least (codes "int main(void) { int a[N]; }") ≡ (Unknown, 23, 1) ∷ []
unfolding pieces_at read_file stmt_at cond_at inner_at loop_int_at decl_at local_at simple_at library_at thread_arg_at plain_at value_at paren_at index_at prefix_at expr_at unary_at noted
case9 = refl

case10 : least (codes "int main(void) { { int x; } x = 1; }") ≡ (Unknown, 28, 1) ∷ []
unfolding pieces_at read_file stmt_at cond_at inner_at loop_int_at decl_at local_at simple_at library_at thread_arg_at plain_at value_at paren_at index_at prefix_at expr_at unary_at noted
case10 = refl

case11 : least (codes "int main(void) { { int x; x = 1; } }") ≡ []
unfolding pieces_at read_file stmt_at cond_at inner_at loop_int_at decl_at local_at simple_at library_at thread_arg_at plain_at value_at paren_at index_at prefix_at expr_at unary_at noted
case11 = refl

case12 : least (codes "int main(void) { for (int i = 0; i < 1; i++) { } i = 1; }") ≡ (Unknown, 49, 1) ∷ []
unfolding pieces_at read_file stmt_at cond_at inner_at loop_int_at decl_at local_at simple_at library_at thread_arg_at plain_at value_at paren_at index_at prefix_at expr_at unary_at noted
case12 = refl

-- Twice
case13 : least (codes "int x; int x; int main(void) { }") ≡ (Twice, 11, 1) ∷ []
unfolding pieces_at read_file stmt_at cond_at inner_at loop_int_at decl_at local_at simple_at library_at thread_arg_at plain_at value_at paren_at index_at prefix_at expr_at unary_at noted
case13 = refl

case14 : least (codes "int x; void x(void) { } int main(void) { }") ≡ (Twice, 12, 1) ∷ []
unfolding pieces_at read_file stmt_at cond_at inner_at loop_int_at decl_at local_at simple_at library_at thread_arg_at plain_at value_at paren_at index_at prefix_at expr_at unary_at noted
case14 = refl

case15 : least (codes "int main(void) { int x; int x; }") ≡ (Twice, 28, 1) ∷ []
unfolding pieces_at read_file stmt_at cond_at inner_at loop_int_at decl_at local_at simple_at library_at thread_arg_at plain_at value_at paren_at index_at prefix_at expr_at unary_at noted
case15 = refl

case16 : least (codes "int main(void) { int x; { int x; } }") ≡ []
unfolding pieces_at read_file stmt_at cond_at inner_at loop_int_at decl_at local_at simple_at library_at thread_arg_at plain_at value_at paren_at index_at prefix_at expr_at unary_at noted
case16 = refl

case17 : least (codes "int x; int main(void) { int x; }") ≡ []
unfolding pieces_at read_file stmt_at cond_at inner_at loop_int_at decl_at local_at simple_at library_at thread_arg_at plain_at value_at paren_at index_at prefix_at expr_at unary_at noted
case17 = refl

case18 : least (codes "void f(int a) { int a; } int main(void) { }") ≡ (Twice, 20, 1) ∷ []
unfolding pieces_at read_file stmt_at cond_at inner_at loop_int_at decl_at local_at simple_at library_at thread_arg_at plain_at value_at paren_at index_at prefix_at expr_at unary_at noted
case18 = refl

case19 : least (codes "void f(int a) { { int a; } } int main(void) { }") ≡ []
unfolding pieces_at read_file stmt_at cond_at inner_at loop_int_at decl_at local_at simple_at library_at thread_arg_at plain_at value_at paren_at index_at prefix_at expr_at unary_at noted
case19 = refl

case20 : least (codes "void f(int a, int a) { } int main(void) { }") ≡ (Twice, 18, 1) ∷ []
unfolding pieces_at read_file stmt_at cond_at inner_at loop_int_at decl_at local_at simple_at library_at thread_arg_at plain_at value_at paren_at index_at prefix_at expr_at unary_at noted
case20 = refl

case21 : least (codes "int main(void) { int i = 1; for (int i = 0; i < 1; i++) { int i; } }") ≡ []
unfolding pieces_at read_file stmt_at cond_at inner_at loop_int_at decl_at local_at simple_at library_at thread_arg_at plain_at value_at paren_at index_at prefix_at expr_at unary_at noted
case21 = refl

-- Arity
case22 : least (codes "void f(int a) { } int main(void) { f(); }") ≡ (Arity, 35, 1) ∷ []
unfolding pieces_at read_file stmt_at cond_at inner_at loop_int_at decl_at local_at simple_at library_at thread_arg_at plain_at value_at paren_at index_at prefix_at expr_at unary_at noted
case22 = refl

case23 : least (codes "void f(int a) { } int main(void) { f(1, 2); }") ≡ (Arity, 35, 1) ∷ []
unfolding pieces_at read_file stmt_at cond_at inner_at loop_int_at decl_at local_at simple_at library_at thread_arg_at plain_at value_at paren_at index_at prefix_at expr_at unary_at noted
case23 = refl

case24 : least (codes "void f(int a) { } int main(void) { f(1); }") ≡ []
unfolding pieces_at read_file stmt_at cond_at inner_at loop_int_at decl_at local_at simple_at library_at thread_arg_at plain_at value_at paren_at index_at prefix_at expr_at unary_at noted
case24 = refl

case25 : least (codes "int main(void) { printf(\"%d\"); }") ≡ (Arity, 17, 1) ∷ []
unfolding pieces_at read_file stmt_at cond_at inner_at loop_int_at decl_at local_at simple_at library_at thread_arg_at plain_at value_at paren_at index_at prefix_at expr_at unary_at noted
case25 = refl

case26 : least (codes "int main(void) { printf(\"%%d\", 1); }") ≡ (Arity, 17, 1) ∷ []
unfolding pieces_at read_file stmt_at cond_at inner_at loop_int_at decl_at local_at simple_at library_at thread_arg_at plain_at value_at paren_at index_at prefix_at expr_at unary_at noted
case26 = refl

case27 : least (codes "int main(void) { printf(\"%d%%\", 1); }") ≡ []
unfolding pieces_at read_file stmt_at cond_at inner_at loop_int_at decl_at local_at simple_at library_at thread_arg_at plain_at value_at paren_at index_at prefix_at expr_at unary_at noted
case27 = refl

case28 : least (codes "int main(void) { printf(\"%x%d\"); }") ≡ (Arity, 17, 1) ∷ []
unfolding pieces_at read_file stmt_at cond_at inner_at loop_int_at decl_at local_at simple_at library_at thread_arg_at plain_at value_at paren_at index_at prefix_at expr_at unary_at noted
case28 = refl

-- WrongUse
case29 : least (codes "int x[2]; int main(void) { x = 1; }") ≡ (WrongUse, 27, 1) ∷ []
unfolding pieces_at read_file stmt_at cond_at inner_at loop_int_at decl_at local_at simple_at library_at thread_arg_at plain_at value_at paren_at index_at prefix_at expr_at unary_at noted
case29 = refl

case30 : least (codes "int x[2]; int main(void) { x[1] = 1; }") ≡ []
unfolding pieces_at read_file stmt_at cond_at inner_at loop_int_at decl_at local_at simple_at library_at thread_arg_at plain_at value_at paren_at index_at prefix_at expr_at unary_at noted
case30 = refl

case31 : least (codes "int x; int main(void) { x[1] = 1; }") ≡ (WrongUse, 24, 1) ∷ []
unfolding pieces_at read_file stmt_at cond_at inner_at loop_int_at decl_at local_at simple_at library_at thread_arg_at plain_at value_at paren_at index_at prefix_at expr_at unary_at noted
case31 = refl

case32 : least (codes "pthread_t t; int main(void) { t = 1; }") ≡ (WrongUse, 30, 1) ∷ []
unfolding pieces_at read_file stmt_at cond_at inner_at loop_int_at decl_at local_at simple_at library_at thread_arg_at plain_at value_at paren_at index_at prefix_at expr_at unary_at noted
case32 = refl

case33 : least (codes "pthread_t t; int main(void) { pthread_join(t, NULL); }") ≡ []
unfolding pieces_at read_file stmt_at cond_at inner_at loop_int_at decl_at local_at simple_at library_at thread_arg_at plain_at value_at paren_at index_at prefix_at expr_at unary_at noted
case33 = refl

case34 : least (codes "pthread_t t; int main(void) { pthread_join(t[0], NULL); }") ≡ (WrongUse, 43, 1) ∷ []
unfolding pieces_at read_file stmt_at cond_at inner_at loop_int_at decl_at local_at simple_at library_at thread_arg_at plain_at value_at paren_at index_at prefix_at expr_at unary_at noted
case34 = refl

case35 : least (codes "pthread_mutex_t m; int main(void) { pthread_mutex_lock(&m); }") ≡ []
unfolding pieces_at read_file stmt_at cond_at inner_at loop_int_at decl_at local_at simple_at library_at thread_arg_at plain_at value_at paren_at index_at prefix_at expr_at unary_at noted
case35 = refl

case36 : least (codes "int m; int main(void) { pthread_mutex_lock(&m); }") ≡ (WrongUse, 44, 1) ∷ []
unfolding pieces_at read_file stmt_at cond_at inner_at loop_int_at decl_at local_at simple_at library_at thread_arg_at plain_at value_at paren_at index_at prefix_at expr_at unary_at noted
case36 = refl

case37 : least (codes "void f(void) { } int main(void) { f = 1; }") ≡ (WrongUse, 34, 1) ∷ []
unfolding pieces_at read_file stmt_at cond_at inner_at loop_int_at decl_at local_at simple_at library_at thread_arg_at plain_at value_at paren_at index_at prefix_at expr_at unary_at noted
case37 = refl

case38 : least (codes "void f(void) { } int main(void) { int x = f(); }") ≡ (WrongUse, 42, 1) ∷ []
unfolding pieces_at read_file stmt_at cond_at inner_at loop_int_at decl_at local_at simple_at library_at thread_arg_at plain_at value_at paren_at index_at prefix_at expr_at unary_at noted
case38 = refl

case39 : least (codes "void *w(void *arg) { return NULL; } int main(void) { pthread_t t; pthread_create(&t, NULL, w, NULL); }") ≡ []
unfolding pieces_at read_file stmt_at cond_at inner_at loop_int_at decl_at local_at simple_at library_at thread_arg_at plain_at value_at paren_at index_at prefix_at expr_at unary_at noted
case39 = refl

case40 : least (codes "void f(void) { } int main(void) { pthread_t t; pthread_create(&t, NULL, f, NULL); }") ≡ (WrongUse, 72, 1) ∷ []
unfolding pieces_at read_file stmt_at cond_at inner_at loop_int_at decl_at local_at simple_at library_at thread_arg_at plain_at value_at paren_at index_at prefix_at expr_at unary_at noted
case40 = refl

case41 : least (codes "void *w(void *arg) { int x = (int)(long)arg; return NULL; } int main(void) { }") ≡ []
unfolding pieces_at read_file stmt_at cond_at inner_at loop_int_at decl_at local_at simple_at library_at thread_arg_at plain_at value_at paren_at index_at prefix_at expr_at unary_at noted
case41 = refl

case42 : least (codes "void *w(void *arg) { int x = arg; return NULL; } int main(void) { }") ≡ (WrongUse, 29, 1) ∷ []
unfolding pieces_at read_file stmt_at cond_at inner_at loop_int_at decl_at local_at simple_at library_at thread_arg_at plain_at value_at paren_at index_at prefix_at expr_at unary_at noted
case42 = refl

case43 : least (codes "void f(int a) { int x = (int)a; } int main(void) { }") ≡ (WrongUse, 29, 1) ∷ []
unfolding pieces_at read_file stmt_at cond_at inner_at loop_int_at decl_at local_at simple_at library_at thread_arg_at plain_at value_at paren_at index_at prefix_at expr_at unary_at noted
case43 = refl

case44 : least (codes "int main(void) { printf(\"%x\"); }") ≡ (WrongUse, 24, 1) ∷ []
unfolding pieces_at read_file stmt_at cond_at inner_at loop_int_at decl_at local_at simple_at library_at thread_arg_at plain_at value_at paren_at index_at prefix_at expr_at unary_at noted
case44 = refl

case45 : least (codes "int main(void) { printf(\"%%\"); }") ≡ []
unfolding pieces_at read_file stmt_at cond_at inner_at loop_int_at decl_at local_at simple_at library_at thread_arg_at plain_at value_at paren_at index_at prefix_at expr_at unary_at noted
case45 = refl

case46 : least (codes "int x; int main(void) { scanf(\"%d\", &x); }") ≡ []
unfolding pieces_at read_file stmt_at cond_at inner_at loop_int_at decl_at local_at simple_at library_at thread_arg_at plain_at value_at paren_at index_at prefix_at expr_at unary_at noted
case46 = refl

case47 : least (codes "int x; int main(void) { scanf(\"%%\", &x); }") ≡ (WrongUse, 30, 1) ∷ []
unfolding pieces_at read_file stmt_at cond_at inner_at loop_int_at decl_at local_at simple_at library_at thread_arg_at plain_at value_at paren_at index_at prefix_at expr_at unary_at noted
case47 = refl

case48 : least (codes "int main(void) { break; }") ≡ (WrongUse, 17, 1) ∷ []
unfolding pieces_at read_file stmt_at cond_at inner_at loop_int_at decl_at local_at simple_at library_at thread_arg_at plain_at value_at paren_at index_at prefix_at expr_at unary_at noted
case48 = refl

case49 : least (codes "int main(void) { while (1) break; }") ≡ []
unfolding pieces_at read_file stmt_at cond_at inner_at loop_int_at decl_at local_at simple_at library_at thread_arg_at plain_at value_at paren_at index_at prefix_at expr_at unary_at noted
case49 = refl

case50 : least (codes "int main(void) { while (1) { } continue; }") ≡ (WrongUse, 31, 1) ∷ []
unfolding pieces_at read_file stmt_at cond_at inner_at loop_int_at decl_at local_at simple_at library_at thread_arg_at plain_at value_at paren_at index_at prefix_at expr_at unary_at noted
case50 = refl

case51 : least (codes "int main(void) { return; }") ≡ (WrongUse, 17, 1) ∷ []
unfolding pieces_at read_file stmt_at cond_at inner_at loop_int_at decl_at local_at simple_at library_at thread_arg_at plain_at value_at paren_at index_at prefix_at expr_at unary_at noted
case51 = refl

case52 : least (codes "int main(void) { return 1; }") ≡ []
unfolding pieces_at read_file stmt_at cond_at inner_at loop_int_at decl_at local_at simple_at library_at thread_arg_at plain_at value_at paren_at index_at prefix_at expr_at unary_at noted
case52 = refl

case53 : least (codes "int main(void) { return NULL; }") ≡ (WrongUse, 17, 1) ∷ []
unfolding pieces_at read_file stmt_at cond_at inner_at loop_int_at decl_at local_at simple_at library_at thread_arg_at plain_at value_at paren_at index_at prefix_at expr_at unary_at noted
case53 = refl

case54 : least (codes "void f(void) { return; } int main(void) { }") ≡ []
unfolding pieces_at read_file stmt_at cond_at inner_at loop_int_at decl_at local_at simple_at library_at thread_arg_at plain_at value_at paren_at index_at prefix_at expr_at unary_at noted
case54 = refl

case55 : least (codes "void f(void) { return 1; } int main(void) { }") ≡ (WrongUse, 15, 1) ∷ []
unfolding pieces_at read_file stmt_at cond_at inner_at loop_int_at decl_at local_at simple_at library_at thread_arg_at plain_at value_at paren_at index_at prefix_at expr_at unary_at noted
case55 = refl

case56 : least (codes "void *w(void *a) { return 0; } int main(void) { }") ≡ []
unfolding pieces_at read_file stmt_at cond_at inner_at loop_int_at decl_at local_at simple_at library_at thread_arg_at plain_at value_at paren_at index_at prefix_at expr_at unary_at noted
case56 = refl

case57 : least (codes "void *w(void *a) { return (0); } int main(void) { }") ≡ []
unfolding pieces_at read_file stmt_at cond_at inner_at loop_int_at decl_at local_at simple_at library_at thread_arg_at plain_at value_at paren_at index_at prefix_at expr_at unary_at noted
case57 = refl

case58 : least (codes "void *w(void *a) { return -0; } int main(void) { }") ≡ (WrongUse, 19, 1) ∷ []
unfolding pieces_at read_file stmt_at cond_at inner_at loop_int_at decl_at local_at simple_at library_at thread_arg_at plain_at value_at paren_at index_at prefix_at expr_at unary_at noted
case58 = refl

case59 : least (codes "void *w(void *a) { return; } int main(void) { }") ≡ (WrongUse, 19, 1) ∷ []
unfolding pieces_at read_file stmt_at cond_at inner_at loop_int_at decl_at local_at simple_at library_at thread_arg_at plain_at value_at paren_at index_at prefix_at expr_at unary_at noted
case59 = refl

case60 : least (codes "void f(int) { } int main(void) { }") ≡ (WrongUse, 7, 1) ∷ []
unfolding pieces_at read_file stmt_at cond_at inner_at loop_int_at decl_at local_at simple_at library_at thread_arg_at plain_at value_at paren_at index_at prefix_at expr_at unary_at noted
case60 = refl

case61 : least (codes "void f(int); void f(int a) { } int main(void) { }") ≡ []
unfolding pieces_at read_file stmt_at cond_at inner_at loop_int_at decl_at local_at simple_at library_at thread_arg_at plain_at value_at paren_at index_at prefix_at expr_at unary_at noted
case61 = refl

case62 : least (codes "void *w(void *) { return NULL; } int main(void) { }") ≡ (WrongUse, 8, 1) ∷ []
unfolding pieces_at read_file stmt_at cond_at inner_at loop_int_at decl_at local_at simple_at library_at thread_arg_at plain_at value_at paren_at index_at prefix_at expr_at unary_at noted
case62 = refl

case63 : least (codes "void f(int); void f(void) { } int main(void) { }") ≡ (WrongUse, 5, 1) ∷ []
unfolding pieces_at read_file stmt_at cond_at inner_at loop_int_at decl_at local_at simple_at library_at thread_arg_at plain_at value_at paren_at index_at prefix_at expr_at unary_at noted
case63 = refl

case64 : least (codes "int f(void); void f(void) { } int main(void) { }") ≡ (WrongUse, 4, 1) ∷ []
unfolding pieces_at read_file stmt_at cond_at inner_at loop_int_at decl_at local_at simple_at library_at thread_arg_at plain_at value_at paren_at index_at prefix_at expr_at unary_at noted
case64 = refl

case65 : least (codes "void main(void) { }") ≡ (WrongUse, 5, 1) ∷ []
unfolding pieces_at read_file stmt_at cond_at inner_at loop_int_at decl_at local_at simple_at library_at thread_arg_at plain_at value_at paren_at index_at prefix_at expr_at unary_at noted
case65 = refl

case66 : least (codes "int main(int a) { }") ≡ (WrongUse, 4, 1) ∷ []
unfolding pieces_at read_file stmt_at cond_at inner_at loop_int_at decl_at local_at simple_at library_at thread_arg_at plain_at value_at paren_at index_at prefix_at expr_at unary_at noted
case66 = refl

case67 : least (codes "int main;") ≡ (WrongUse, 4, 1) ∷ []
unfolding pieces_at read_file stmt_at cond_at inner_at loop_int_at decl_at local_at simple_at library_at thread_arg_at plain_at value_at paren_at index_at prefix_at expr_at unary_at noted
case67 = refl

case68 : least (codes "int main(void) { int main = 1; main++; }") ≡ []
unfolding pieces_at read_file stmt_at cond_at inner_at loop_int_at decl_at local_at simple_at library_at thread_arg_at plain_at value_at paren_at index_at prefix_at expr_at unary_at noted
case68 = refl

-- RootCalled
case69 : least (codes "int main(void) { main(); }") ≡ (RootCalled, 17, 1) ∷ []
unfolding pieces_at read_file stmt_at cond_at inner_at loop_int_at decl_at local_at simple_at library_at thread_arg_at plain_at value_at paren_at index_at prefix_at expr_at unary_at noted
case69 = refl

case70 : least (codes "void *w(void *arg) { return NULL; } int main(void) { w(); }") ≡ (RootCalled, 53, 1) ∷ []
unfolding pieces_at read_file stmt_at cond_at inner_at loop_int_at decl_at local_at simple_at library_at thread_arg_at plain_at value_at paren_at index_at prefix_at expr_at unary_at noted
case70 = refl

case71 : least (codes "void f(void) { } int main(void) { f(); }") ≡ []
unfolding pieces_at read_file stmt_at cond_at inner_at loop_int_at decl_at local_at simple_at library_at thread_arg_at plain_at value_at paren_at index_at prefix_at expr_at unary_at noted
case71 = refl

-- Reserved
case72 : least (codes "int cfix_x; int main(void) { }") ≡ (Reserved, 4, 1) ∷ []
unfolding pieces_at read_file stmt_at cond_at inner_at loop_int_at decl_at local_at simple_at library_at thread_arg_at plain_at value_at paren_at index_at prefix_at expr_at unary_at noted
case72 = refl

case73 : least (codes "int cfi_x; int main(void) { }") ≡ []
unfolding pieces_at read_file stmt_at cond_at inner_at loop_int_at decl_at local_at simple_at library_at thread_arg_at plain_at value_at paren_at index_at prefix_at expr_at unary_at noted
case73 = refl

case74 : least (codes "void f(int pthread_x); void f(int a) { } int main(void) { }") ≡ (Reserved, 11, 1) ∷ []
unfolding pieces_at read_file stmt_at cond_at inner_at loop_int_at decl_at local_at simple_at library_at thread_arg_at plain_at value_at paren_at index_at prefix_at expr_at unary_at noted
case74 = refl

case75 : least (codes "int main(void) { int CFIX_A; }") ≡ (Reserved, 21, 1) ∷ []
unfolding pieces_at read_file stmt_at cond_at inner_at loop_int_at decl_at local_at simple_at library_at thread_arg_at plain_at value_at paren_at index_at prefix_at expr_at unary_at noted
case75 = refl

case76 : least (codes "int main(void) { int PTHREAD_A; }") ≡ (Reserved, 21, 1) ∷ []
unfolding pieces_at read_file stmt_at cond_at inner_at loop_int_at decl_at local_at simple_at library_at thread_arg_at plain_at value_at paren_at index_at prefix_at expr_at unary_at noted
case76 = refl

-- Limit
case77 : least (codes "int a[0]; int main(void) { }") ≡ (Limit, 4, 1) ∷ []
unfolding pieces_at read_file stmt_at cond_at inner_at loop_int_at decl_at local_at simple_at library_at thread_arg_at plain_at value_at paren_at index_at prefix_at expr_at unary_at noted
case77 = refl

case78 : least (codes "int a[1]; int main(void) { }") ≡ []
unfolding pieces_at read_file stmt_at cond_at inner_at loop_int_at decl_at local_at simple_at library_at thread_arg_at plain_at value_at paren_at index_at prefix_at expr_at unary_at noted
case78 = refl

case79 : least (codes "int a[65536]; int main(void) { }") ≡ []
unfolding pieces_at read_file stmt_at cond_at inner_at loop_int_at decl_at local_at simple_at library_at thread_arg_at plain_at value_at paren_at index_at prefix_at expr_at unary_at noted
case79 = refl

case80 : least (codes "int a[65537]; int main(void) { }") ≡ (Limit, 4, 1) ∷ []
unfolding pieces_at read_file stmt_at cond_at inner_at loop_int_at decl_at local_at simple_at library_at thread_arg_at plain_at value_at paren_at index_at prefix_at expr_at unary_at noted
case80 = refl

case81 : least (codes "int main(void) { int a[1024]; }") ≡ []
unfolding pieces_at read_file stmt_at cond_at inner_at loop_int_at decl_at local_at simple_at library_at thread_arg_at plain_at value_at paren_at index_at prefix_at expr_at unary_at noted
case81 = refl

case82 : least (codes "int main(void) { int a[1024]; int b; }") ≡ (Limit, 34, 1) ∷ []
unfolding pieces_at read_file stmt_at cond_at inner_at loop_int_at decl_at local_at simple_at library_at thread_arg_at plain_at value_at paren_at index_at prefix_at expr_at unary_at noted
case82 = refl

case83 : least (codes "int main(void) { int a[1025]; }") ≡ (Limit, 21, 1) ∷ []
unfolding pieces_at read_file stmt_at cond_at inner_at loop_int_at decl_at local_at simple_at library_at thread_arg_at plain_at value_at paren_at index_at prefix_at expr_at unary_at noted
case83 = refl

case84 : least (codes "int x; int main(void) { x = 1; cfix_enter(999); }") ≡ []
unfolding pieces_at read_file stmt_at cond_at inner_at loop_int_at decl_at local_at simple_at library_at thread_arg_at plain_at value_at paren_at index_at prefix_at expr_at unary_at noted
case84 = refl

case85 : least (codes "int x; int main(void) { x = 1; cfix_enter(1000); }") ≡ (Limit, 31, 1) ∷ []
unfolding pieces_at read_file stmt_at cond_at inner_at loop_int_at decl_at local_at simple_at library_at thread_arg_at plain_at value_at paren_at index_at prefix_at expr_at unary_at noted
case85 = refl

case86 : least (codes "int x; int main(void) { if (x) x = 1; }") ≡ []
unfolding pieces_at read_file stmt_at cond_at inner_at loop_int_at decl_at local_at simple_at library_at thread_arg_at plain_at value_at paren_at index_at prefix_at expr_at unary_at noted
case86 = refl

-- NoReturn: falling through
case87 : least (codes "int f(void) { } int main(void) { }") ≡ (NoReturn, 4, 1) ∷ []
unfolding pieces_at read_file stmt_at cond_at inner_at loop_int_at decl_at local_at simple_at library_at thread_arg_at plain_at value_at paren_at index_at prefix_at expr_at unary_at noted
case87 = refl

case88 : least (codes "int f(void) { return 1; } int main(void) { }") ≡ []
unfolding pieces_at read_file stmt_at cond_at inner_at loop_int_at decl_at local_at simple_at library_at thread_arg_at plain_at value_at paren_at index_at prefix_at expr_at unary_at noted
case88 = simp valid_steps refl

case89 : least (codes "int f(int a) { if (a) return 1; } int main(void) { }") ≡ (NoReturn, 4, 1) ∷ []
unfolding pieces_at read_file stmt_at cond_at inner_at loop_int_at decl_at local_at simple_at library_at thread_arg_at plain_at value_at paren_at index_at prefix_at expr_at unary_at noted
case89 = simp valid_steps refl

case90 : least (codes "int f(int a) { if (a) return 1; else return 2; } int main(void) { }") ≡ []
unfolding pieces_at read_file stmt_at cond_at inner_at loop_int_at decl_at local_at simple_at library_at thread_arg_at plain_at value_at paren_at index_at prefix_at expr_at unary_at noted
case90 = simp valid_steps refl

case91 : least (codes "int f(void) { while (1) { } } int main(void) { }") ≡ []
unfolding pieces_at read_file stmt_at cond_at inner_at loop_int_at decl_at local_at simple_at library_at thread_arg_at plain_at value_at paren_at index_at prefix_at expr_at unary_at noted
case91 = simp valid_steps refl

case92 : least (codes "int f(void) { while (1) { break; } } int main(void) { }") ≡ (NoReturn, 4, 1) ∷ []
unfolding pieces_at read_file stmt_at cond_at inner_at loop_int_at decl_at local_at simple_at library_at thread_arg_at plain_at value_at paren_at index_at prefix_at expr_at unary_at noted
case92 = simp valid_steps refl

case93 : least (codes "int f(void) { for (;;) { while (1) break; } } int main(void) { }") ≡ []
unfolding pieces_at read_file stmt_at cond_at inner_at loop_int_at decl_at local_at simple_at library_at thread_arg_at plain_at value_at paren_at index_at prefix_at expr_at unary_at noted
case93 = simp valid_steps refl

case94 : least (codes "int f(void) { while (f) { } } int main(void) { }") ≡ (NoReturn, 4, 1) ∷ []
unfolding pieces_at read_file stmt_at cond_at inner_at loop_int_at decl_at local_at simple_at library_at thread_arg_at plain_at value_at paren_at index_at prefix_at expr_at unary_at noted
case94 = simp valid_steps refl

-- defined names and starts
case95 : least (codes "#define N 3\nint a[N]; int main(void) { int b[N]; b[N] = N; }") ≡ []
unfolding pieces_at read_file stmt_at cond_at inner_at loop_int_at decl_at local_at simple_at library_at thread_arg_at plain_at value_at paren_at index_at prefix_at expr_at unary_at noted
case95 = refl

case96 : least (codes "#define N 0\nint a[N]; int main(void) { }") ≡ (Limit, 16, 2) ∷ []
unfolding pieces_at read_file stmt_at cond_at inner_at loop_int_at decl_at local_at simple_at library_at thread_arg_at plain_at value_at paren_at index_at prefix_at expr_at unary_at noted
case96 = refl

case97 : least (codes "#define N 3\n#define N 4\n int main(void) { }") ≡ (Twice, 20, 2) ∷ []
unfolding pieces_at read_file stmt_at cond_at inner_at loop_int_at decl_at local_at simple_at library_at thread_arg_at plain_at value_at paren_at index_at prefix_at expr_at unary_at noted
case97 = refl

case98 : least (codes "#define N 3\nint main(void) { int N; }") ≡ (Twice, 33, 2) ∷ []
unfolding pieces_at read_file stmt_at cond_at inner_at loop_int_at decl_at local_at simple_at library_at thread_arg_at plain_at value_at paren_at index_at prefix_at expr_at unary_at noted
case98 = refl

case99 : least (codes "#define N 3\nint main(void) { N = 1; }") ≡ (WrongUse, 29, 2) ∷ []
unfolding pieces_at read_file stmt_at cond_at inner_at loop_int_at decl_at local_at simple_at library_at thread_arg_at plain_at value_at paren_at index_at prefix_at expr_at unary_at noted
case99 = refl

case100 : least (codes "int a; int main(void) { int b[a]; }") ≡ (WrongUse, 30, 1) ∷ []
unfolding pieces_at read_file stmt_at cond_at inner_at loop_int_at decl_at local_at simple_at library_at thread_arg_at plain_at value_at paren_at index_at prefix_at expr_at unary_at noted
case100 = refl

case101 : least (codes "int main(void) { int b[b]; }") ≡ (Unknown, 23, 1) ∷ []
unfolding pieces_at read_file stmt_at cond_at inner_at loop_int_at decl_at local_at simple_at library_at thread_arg_at plain_at value_at paren_at index_at prefix_at expr_at unary_at noted
case101 = refl

case102 : least (codes "int main(void) { int b = b; }") ≡ []
unfolding pieces_at read_file stmt_at cond_at inner_at loop_int_at decl_at local_at simple_at library_at thread_arg_at plain_at value_at paren_at index_at prefix_at expr_at unary_at noted
case102 = refl

case103 : least (codes "#define main 1\n") ≡ (WrongUse, 8, 1) ∷ []
unfolding pieces_at read_file stmt_at cond_at inner_at loop_int_at decl_at local_at simple_at library_at thread_arg_at plain_at value_at paren_at index_at prefix_at expr_at unary_at noted
case103 = refl

case104 : least (codes "#define CFIX_START_0 1\n int main(void) { }") ≡ []
unfolding pieces_at read_file stmt_at cond_at inner_at loop_int_at decl_at local_at simple_at library_at thread_arg_at plain_at value_at paren_at index_at prefix_at expr_at unary_at noted
case104 = refl

case105 : least (codes "#define CFIX_START_0 2\n int main(void) { }") ≡ (WrongUse, 8, 1) ∷ []
unfolding pieces_at read_file stmt_at cond_at inner_at loop_int_at decl_at local_at simple_at library_at thread_arg_at plain_at value_at paren_at index_at prefix_at expr_at unary_at noted
case105 = refl

case106 : least (codes "#define CFIX_START_999 1\n int main(void) { }") ≡ []
unfolding pieces_at read_file stmt_at cond_at inner_at loop_int_at decl_at local_at simple_at library_at thread_arg_at plain_at value_at paren_at index_at prefix_at expr_at unary_at noted
case106 = refl

case107 : least (codes "#define CFIX_START_1000 1\n int main(void) { }") ≡ (Limit, 8, 1) ∷ []
unfolding pieces_at read_file stmt_at cond_at inner_at loop_int_at decl_at local_at simple_at library_at thread_arg_at plain_at value_at paren_at index_at prefix_at expr_at unary_at noted
case107 = refl

case108 : least (codes "#define CFIX_START_1000 2\n int main(void) { }") ≡ (WrongUse, 8, 1) ∷ []
unfolding pieces_at read_file stmt_at cond_at inner_at loop_int_at decl_at local_at simple_at library_at thread_arg_at plain_at value_at paren_at index_at prefix_at expr_at unary_at noted
case108 = refl

case109 : least (codes "#define CFIX_START_01 1\n int main(void) { }") ≡ (Reserved, 8, 1) ∷ []
unfolding pieces_at read_file stmt_at cond_at inner_at loop_int_at decl_at local_at simple_at library_at thread_arg_at plain_at value_at paren_at index_at prefix_at expr_at unary_at noted
case109 = refl

case110 : least (codes "#define CFIX_START_x 1\n int main(void) { }") ≡ (Reserved, 8, 1) ∷ []
unfolding pieces_at read_file stmt_at cond_at inner_at loop_int_at decl_at local_at simple_at library_at thread_arg_at plain_at value_at paren_at index_at prefix_at expr_at unary_at noted
case110 = refl

case111 : least (codes "#define CFIX_START_ 1\n int main(void) { }") ≡ (Reserved, 8, 1) ∷ []
unfolding pieces_at read_file stmt_at cond_at inner_at loop_int_at decl_at local_at simple_at library_at thread_arg_at plain_at value_at paren_at index_at prefix_at expr_at unary_at noted
case111 = refl

case112 : least (codes "#define CFIX_START_2147483648 1\n int main(void) { }") ≡ (Reserved, 8, 1) ∷ []
unfolding pieces_at read_file stmt_at cond_at inner_at loop_int_at decl_at local_at simple_at library_at thread_arg_at plain_at value_at paren_at index_at prefix_at expr_at unary_at noted
case112 = refl

case113 : least (codes "#define CFIX_START_2147483647 1\n int main(void) { }") ≡ (Limit, 8, 1) ∷ []
unfolding pieces_at read_file stmt_at cond_at inner_at loop_int_at decl_at local_at simple_at library_at thread_arg_at plain_at value_at paren_at index_at prefix_at expr_at unary_at noted
case113 = refl

case114 : least (codes "#define CFIX_START_3 1\n#define CFIX_START_3 1\n int main(void) { }") ≡ (Twice, 31, 2) ∷ []
unfolding pieces_at read_file stmt_at cond_at inner_at loop_int_at decl_at local_at simple_at library_at thread_arg_at plain_at value_at paren_at index_at prefix_at expr_at unary_at noted
case114 = refl

case115 : least (codes "#define CFIX_START_3 1\nint x; int main(void) { x = CFIX_START_3; }") ≡ (Reserved, 51, 2) ∷ []
unfolding pieces_at read_file stmt_at cond_at inner_at loop_int_at decl_at local_at simple_at library_at thread_arg_at plain_at value_at paren_at index_at prefix_at expr_at unary_at noted
case115 = refl

case116 : least (codes "int x = -N; int main(void) { }") ≡ (Unknown, 9, 1) ∷ []
unfolding pieces_at read_file stmt_at cond_at inner_at loop_int_at decl_at local_at simple_at library_at thread_arg_at plain_at value_at paren_at index_at prefix_at expr_at unary_at noted
case116 = refl

-- guards and jump blocks
case117 : least (codes "int x; int main(void) { if ((x) && (cfix_enter(1000), 1)) x = 1; }") ≡ (Limit, 36, 1) ∷ []
unfolding pieces_at read_file stmt_at cond_at inner_at loop_int_at decl_at local_at simple_at library_at thread_arg_at plain_at value_at paren_at index_at prefix_at expr_at unary_at noted
case117 = refl

case118 : least (codes "int x; int main(void) { while (x) { cfix_leave(1); break; } }") ≡ []
unfolding pieces_at read_file stmt_at cond_at inner_at loop_int_at decl_at local_at simple_at library_at thread_arg_at plain_at value_at paren_at index_at prefix_at expr_at unary_at noted
case118 = refl

case119 : least (codes "int x; int main(void) { { cfix_leave(1); break; } }") ≡ (WrongUse, 41, 1) ∷ []
unfolding pieces_at read_file stmt_at cond_at inner_at loop_int_at decl_at local_at simple_at library_at thread_arg_at plain_at value_at paren_at index_at prefix_at expr_at unary_at noted
case119 = refl

case120 : least (codes "int x; int main(void) { { int cfix_value = x; cfix_leave(1); return cfix_value; } }") ≡ []
unfolding pieces_at read_file stmt_at cond_at inner_at loop_int_at decl_at local_at simple_at library_at thread_arg_at plain_at value_at paren_at index_at prefix_at expr_at unary_at noted
case120 = refl

case121 : least (codes "void f(void) { { int cfix_value = 1; cfix_leave(1); return cfix_value; } } int main(void) { }") ≡ (WrongUse, 52, 1) ∷ []
unfolding pieces_at read_file stmt_at cond_at inner_at loop_int_at decl_at local_at simple_at library_at thread_arg_at plain_at value_at paren_at index_at prefix_at expr_at unary_at noted
case121 = refl

case122 : least (codes "void *w(void *a) { { int cfix_value = 0; cfix_leave(1); return cfix_value; } } int main(void) { }") ≡ []
unfolding pieces_at read_file stmt_at cond_at inner_at loop_int_at decl_at local_at simple_at library_at thread_arg_at plain_at value_at paren_at index_at prefix_at expr_at unary_at noted
case122 = refl

case123 : least (codes "void v(void) { } void f(void) { return v(); } int main(void) { }") ≡ (WrongUse, 32, 1) ∷ []
unfolding pieces_at read_file stmt_at cond_at inner_at loop_int_at decl_at local_at simple_at library_at thread_arg_at plain_at value_at paren_at index_at prefix_at expr_at unary_at noted
case123 = refl

case124 : least (codes "void v(void) { } int f(void) { return v(); } int main(void) { }") ≡ (WrongUse, 38, 1) ∷ []
unfolding pieces_at read_file stmt_at cond_at inner_at loop_int_at decl_at local_at simple_at library_at thread_arg_at plain_at value_at paren_at index_at prefix_at expr_at unary_at noted
case124 = simp valid_steps refl

case125 : least (codes "void v(void) { } int main(void) { int x = v(1); }") ≡ (Arity, 42, 1) ∷ []
unfolding pieces_at read_file stmt_at cond_at inner_at loop_int_at decl_at local_at simple_at library_at thread_arg_at plain_at value_at paren_at index_at prefix_at expr_at unary_at noted
case125 = refl

case126 : least (codes "void *w(void *a) { return NULL; } int main(void) { int x = w(1); }") ≡ (RootCalled, 59, 1) ∷ []
unfolding pieces_at read_file stmt_at cond_at inner_at loop_int_at decl_at local_at simple_at library_at thread_arg_at plain_at value_at paren_at index_at prefix_at expr_at unary_at noted
case126 = refl

-- condition variables
case127 : least (codes "pthread_cond_t c; int main(void) { pthread_cond_signal(&c); }") ≡ []
unfolding pieces_at read_file stmt_at cond_at inner_at loop_int_at decl_at local_at simple_at library_at thread_arg_at plain_at value_at paren_at index_at prefix_at expr_at unary_at noted
case127 = refl

case128 : least (codes "pthread_mutex_t c; int main(void) { pthread_cond_signal(&c); }") ≡ (WrongUse, 57, 1) ∷ []
unfolding pieces_at read_file stmt_at cond_at inner_at loop_int_at decl_at local_at simple_at library_at thread_arg_at plain_at value_at paren_at index_at prefix_at expr_at unary_at noted
case128 = refl

case129 : least (codes "int c; int main(void) { pthread_cond_broadcast(&c); }") ≡ (WrongUse, 48, 1) ∷ []
unfolding pieces_at read_file stmt_at cond_at inner_at loop_int_at decl_at local_at simple_at library_at thread_arg_at plain_at value_at paren_at index_at prefix_at expr_at unary_at noted
case129 = refl

case130 : least (codes "int main(void) { pthread_cond_broadcast(&c); }") ≡ (Unknown, 41, 1) ∷ []
unfolding pieces_at read_file stmt_at cond_at inner_at loop_int_at decl_at local_at simple_at library_at thread_arg_at plain_at value_at paren_at index_at prefix_at expr_at unary_at noted
case130 = refl

case131 : least (codes "pthread_mutex_t m; pthread_cond_t c; int main(void) { pthread_cond_wait(&c, &m); }") ≡ []
unfolding pieces_at read_file stmt_at cond_at inner_at loop_int_at decl_at local_at simple_at library_at thread_arg_at plain_at value_at paren_at index_at prefix_at expr_at unary_at noted
case131 = refl

case132 : least (codes "pthread_mutex_t m; pthread_cond_t c; int main(void) { pthread_cond_wait(&m, &c); }") ≡ (WrongUse, 73, 1) ∷ []
unfolding pieces_at read_file stmt_at cond_at inner_at loop_int_at decl_at local_at simple_at library_at thread_arg_at plain_at value_at paren_at index_at prefix_at expr_at unary_at noted
case132 = refl

case133 : least (codes "pthread_cond_t c, d; int main(void) { pthread_cond_wait(&c, &d); }") ≡ (WrongUse, 61, 1) ∷ []
unfolding pieces_at read_file stmt_at cond_at inner_at loop_int_at decl_at local_at simple_at library_at thread_arg_at plain_at value_at paren_at index_at prefix_at expr_at unary_at noted
case133 = refl

case134 : least (codes "pthread_cond_t c; int main(void) { pthread_cond_wait(&c, &m); }") ≡ (Unknown, 58, 1) ∷ []
unfolding pieces_at read_file stmt_at cond_at inner_at loop_int_at decl_at local_at simple_at library_at thread_arg_at plain_at value_at paren_at index_at prefix_at expr_at unary_at noted
case134 = refl

case135 : least (codes "int m; int main(void) { pthread_cond_wait(&c, &m); }") ≡ (Unknown, 43, 1) ∷ []
unfolding pieces_at read_file stmt_at cond_at inner_at loop_int_at decl_at local_at simple_at library_at thread_arg_at plain_at value_at paren_at index_at prefix_at expr_at unary_at noted
case135 = refl

case136 : least (codes "pthread_cond_t c; int main(void) { pthread_mutex_lock(&c); }") ≡ (WrongUse, 55, 1) ∷ []
unfolding pieces_at read_file stmt_at cond_at inner_at loop_int_at decl_at local_at simple_at library_at thread_arg_at plain_at value_at paren_at index_at prefix_at expr_at unary_at noted
case136 = refl

case137 : least (codes "pthread_cond_t c; int main(void) { int x = c; }") ≡ (WrongUse, 43, 1) ∷ []
unfolding pieces_at read_file stmt_at cond_at inner_at loop_int_at decl_at local_at simple_at library_at thread_arg_at plain_at value_at paren_at index_at prefix_at expr_at unary_at noted
case137 = refl

case138 : least (codes "pthread_cond_t c; int main(void) { c = 1; }") ≡ (WrongUse, 35, 1) ∷ []
unfolding pieces_at read_file stmt_at cond_at inner_at loop_int_at decl_at local_at simple_at library_at thread_arg_at plain_at value_at paren_at index_at prefix_at expr_at unary_at noted
case138 = refl

case139 : least (codes "pthread_cond_t c; int main(void) { int c; c = 1; }") ≡ []
unfolding pieces_at read_file stmt_at cond_at inner_at loop_int_at decl_at local_at simple_at library_at thread_arg_at plain_at value_at paren_at index_at prefix_at expr_at unary_at noted
case139 = refl

case140 : least (codes "pthread_cond_t c; int main(void) { int c; pthread_cond_signal(&c); }") ≡ (WrongUse, 63, 1) ∷ []
unfolding pieces_at read_file stmt_at cond_at inner_at loop_int_at decl_at local_at simple_at library_at thread_arg_at plain_at value_at paren_at index_at prefix_at expr_at unary_at noted
case140 = refl

case141 : least (codes "pthread_mutex_t c; pthread_cond_t c; int main(void) { }") ≡ (Twice, 34, 1) ∷ []
unfolding pieces_at read_file stmt_at cond_at inner_at loop_int_at decl_at local_at simple_at library_at thread_arg_at plain_at value_at paren_at index_at prefix_at expr_at unary_at noted
case141 = refl

case142 : least (codes "pthread_cond_t cfix_c = PTHREAD_COND_INITIALIZER; int main(void) { }") ≡ (Reserved, 15, 1) ∷ []
unfolding pieces_at read_file stmt_at cond_at inner_at loop_int_at decl_at local_at simple_at library_at thread_arg_at plain_at value_at paren_at index_at prefix_at expr_at unary_at noted
case142 = refl
