-- What the definitions say of small texts: each is read, or is refused at one of its tokens, as the grammar says.
use Rattle.std.proofs.Common.{◌≡◌, ℕ, suc, zero, ◌+◌, ◌-◌, ◌*◌, eqb, pos, List, [], ◌∷◌, ◌++◌, Option, Some, None, refl, cond, codes}
use Rattle.std.specs.Char.{is_ascii_digit}
use Rattle.cfix_base.specs.Words.{is_name_start, is_name_text}
use Rattle.c_reading.specs.Reader.{Fault, Unexpected, Deep, Out, Got, Stop, size}
use Rattle.c_grammar.specs.Token.{Kind, IsName, IsNumber, IsQuoted, Token}
use Rattle.c_grammar.specs.Spelling.{word_kind, sign_kind}
use Rattle.c_grammar.specs.File.{File}
use Rattle.c_reading.specs.ReadExpr.{unary_at, expr_at, prefix_at, index_at, paren_at}
use Rattle.c_reading.specs.ReadSimple.{value_at, plain_at, thread_arg_at, library_at, simple_at}
use Rattle.c_reading.specs.ReadDecl.{local_at, decl_at, loop_int_at}
use Rattle.c_reading.specs.ReadCond.{inner_at, cond_at}
use Rattle.c_reading.specs.ReadStmt.{stmt_at}
use Rattle.c_reading.specs.ReadFile.{read_file}

-- ---- texts whose tokens stand apart, by blanks

abbrev add_piece : List ℕ → List (List ℕ) → List (List ℕ)
add_piece [] more = more
add_piece (b ∷ piece) more = (b ∷ piece) ∷ more

-- the pieces between blanks, behind what was seen of the first
abbrev pieces_of : List ℕ → List ℕ → List (List ℕ)
pieces_of seen [] = add_piece seen []
pieces_of seen (b ∷ bytes) = cond (eqb b 32) (add_piece seen (pieces_of [] bytes)) (pieces_of (seen ++ b ∷ []) bytes)

abbrev number_in : ℕ → List ℕ → ℕ
number_in n [] = n
number_in n (b ∷ bytes) = number_in (n * 10 + (b - 48)) bytes

-- the bytes up to a quote
abbrev unquoted : List ℕ → List ℕ
unquoted [] = []
unquoted (b ∷ bytes) = cond (eqb b 34) [] (b ∷ unquoted bytes)

abbrev kind_of : List ℕ → Kind
kind_of [] = IsName []
kind_of (b ∷ bytes) = cond (is_ascii_digit b) (IsNumber (pos (number_in 0 (b ∷ bytes))))
    (cond (eqb b 34) (IsQuoted (unquoted bytes)) (cond (is_name_start b) (cond (is_name_text (b ∷ bytes)) (IsName (b ∷ bytes)) (word_kind (b ∷ bytes))) (sign_kind (b ∷ bytes))))

-- tokens of a line, the first with this place
abbrev laid : ℕ → ℕ → List (List ℕ) → List Token → List Token
laid at line [] more = more
laid at line (x ∷ xs) more = record { kind = kind_of x; spot = record { at = at; line = line } } ∷ laid (suc at) line xs more

abbrev lines : ℕ → List (List ℕ) → List Token
lines line [] = []
lines line (x ∷ more) = laid 0 line (pieces_of [] x) (lines (suc line) more)

-- the fault, and how many tokens there are from the faulty one on
abbrev answer : Out Token File → Option (Fault × ℕ)
answer (Got f rest) = None
answer (Stop f rest) = Some (f, size rest)

-- what reading a text of these lines answers, where a token may be as deep as the limit
read : ℕ → List (List ℕ) → Option (Fault × ℕ)
read limit text = answer (read_file limit (lines 1 text))

-- a body of main
main : List ℕ → List (List ℕ)
main body = (codes "int main ( void ) { " ++ body ++ codes " }") ∷ []

text1 : read 3 (codes "" ∷ []) ≡ None
unfolding read main read_file stmt_at cond_at inner_at loop_int_at decl_at local_at simple_at library_at thread_arg_at plain_at value_at paren_at index_at prefix_at expr_at unary_at
text1 = refl

text2 : read 3 (codes "int x ; int y = 1 , z = - 2 , n = - N , a [ 3 ] , b [ N ] ;" ∷ []) ≡ None
unfolding read main read_file stmt_at cond_at inner_at loop_int_at decl_at local_at simple_at library_at thread_arg_at plain_at value_at paren_at index_at prefix_at expr_at unary_at
text2 = refl

text3 : read 3 (codes "int x = 1 + 1 ;" ∷ []) ≡ Some (Unexpected, 3)
unfolding read main read_file stmt_at cond_at inner_at loop_int_at decl_at local_at simple_at library_at thread_arg_at plain_at value_at paren_at index_at prefix_at expr_at unary_at
text3 = refl

text4 : read 3 (codes "static volatile int x ; volatile static pthread_t t , u [ 2 ] , v [ N ] ;" ∷ []) ≡ None
unfolding read main read_file stmt_at cond_at inner_at loop_int_at decl_at local_at simple_at library_at thread_arg_at plain_at value_at paren_at index_at prefix_at expr_at unary_at
text4 = refl

text5 : read 3 (codes "pthread_mutex_t m = PTHREAD_MUTEX_INITIALIZER , k ; static pthread_mutex_t l ;" ∷ []) ≡ None
unfolding read main read_file stmt_at cond_at inner_at loop_int_at decl_at local_at simple_at library_at thread_arg_at plain_at value_at paren_at index_at prefix_at expr_at unary_at
text5 = refl

text6 : read 3 (codes "pthread_mutex_t m = 1 ;" ∷ []) ≡ Some (Unexpected, 2)
unfolding read main read_file stmt_at cond_at inner_at loop_int_at decl_at local_at simple_at library_at thread_arg_at plain_at value_at paren_at index_at prefix_at expr_at unary_at
text6 = refl

text7 : read 3 (codes "int f ( ) ; void g ( void ) ; int h ( int ) ; static void i ( int a , int b ) ; void * w ( void * ) ; static void * v ( void * arg ) ;" ∷ []) ≡ None
unfolding read main read_file stmt_at cond_at inner_at loop_int_at decl_at local_at simple_at library_at thread_arg_at plain_at value_at paren_at index_at prefix_at expr_at unary_at
text7 = refl

text8 : read 3 (codes "volatile int f ( void ) ;" ∷ []) ≡ Some (Unexpected, 4)
unfolding read main read_file stmt_at cond_at inner_at loop_int_at decl_at local_at simple_at library_at thread_arg_at plain_at value_at paren_at index_at prefix_at expr_at unary_at
text8 = refl

text9 : read 3 (codes "static static int f ( void ) ;" ∷ []) ≡ Some (Unexpected, 4)
unfolding read main read_file stmt_at cond_at inner_at loop_int_at decl_at local_at simple_at library_at thread_arg_at plain_at value_at paren_at index_at prefix_at expr_at unary_at
text9 = refl

text10 : read 3 (codes "volatile void f ( void ) ;" ∷ []) ≡ Some (Unexpected, 6)
unfolding read main read_file stmt_at cond_at inner_at loop_int_at decl_at local_at simple_at library_at thread_arg_at plain_at value_at paren_at index_at prefix_at expr_at unary_at
text10 = refl

text11 : read 3 (codes "void x ;" ∷ []) ≡ Some (Unexpected, 1)
unfolding read main read_file stmt_at cond_at inner_at loop_int_at decl_at local_at simple_at library_at thread_arg_at plain_at value_at paren_at index_at prefix_at expr_at unary_at
text11 = refl

text12 : read 3 (codes "int f ( void , int a ) ;" ∷ []) ≡ Some (Unexpected, 5)
unfolding read main read_file stmt_at cond_at inner_at loop_int_at decl_at local_at simple_at library_at thread_arg_at plain_at value_at paren_at index_at prefix_at expr_at unary_at
text12 = refl

text13 : read 3 (codes "int f ( int a , void ) ;" ∷ []) ≡ Some (Unexpected, 3)
unfolding read main read_file stmt_at cond_at inner_at loop_int_at decl_at local_at simple_at library_at thread_arg_at plain_at value_at paren_at index_at prefix_at expr_at unary_at
text13 = refl

text14 : read 3 (codes "void * w ( ) ;" ∷ []) ≡ Some (Unexpected, 2)
unfolding read main read_file stmt_at cond_at inner_at loop_int_at decl_at local_at simple_at library_at thread_arg_at plain_at value_at paren_at index_at prefix_at expr_at unary_at
text14 = refl

text15 : read 3 (codes "# include < pthread . h >" ∷ codes "# include \"cfix.h\"" ∷ codes "# define N 4" ∷ codes "# define M ( 5 )" ∷ codes "int x ;" ∷ []) ≡ None
unfolding read main read_file stmt_at cond_at inner_at loop_int_at decl_at local_at simple_at library_at thread_arg_at plain_at value_at paren_at index_at prefix_at expr_at unary_at
text15 = refl

text16 : read 3 (codes "# include < pthread . h > int x ;" ∷ []) ≡ Some (Unexpected, 3)
unfolding read main read_file stmt_at cond_at inner_at loop_int_at decl_at local_at simple_at library_at thread_arg_at plain_at value_at paren_at index_at prefix_at expr_at unary_at
text16 = refl

text17 : read 3 (codes "int x ; # include < a . h >" ∷ codes "int y ;" ∷ []) ≡ None
unfolding read main read_file stmt_at cond_at inner_at loop_int_at decl_at local_at simple_at library_at thread_arg_at plain_at value_at paren_at index_at prefix_at expr_at unary_at
text17 = refl

text18 : read 3 (codes "# include \"stdio.h\"" ∷ []) ≡ Some (Unexpected, 1)
unfolding read main read_file stmt_at cond_at inner_at loop_int_at decl_at local_at simple_at library_at thread_arg_at plain_at value_at paren_at index_at prefix_at expr_at unary_at
text18 = refl

text19 : read 3 (codes "# include < a" ∷ codes ". h >" ∷ []) ≡ Some (Unexpected, 3)
unfolding read main read_file stmt_at cond_at inner_at loop_int_at decl_at local_at simple_at library_at thread_arg_at plain_at value_at paren_at index_at prefix_at expr_at unary_at
text19 = refl

text20 : read 3 (codes "#" ∷ codes "include < a . h >" ∷ []) ≡ Some (Unexpected, 6)
unfolding read main read_file stmt_at cond_at inner_at loop_int_at decl_at local_at simple_at library_at thread_arg_at plain_at value_at paren_at index_at prefix_at expr_at unary_at
text20 = refl

text21 : read 3 (codes "# include < a > b >" ∷ []) ≡ Some (Unexpected, 2)
unfolding read main read_file stmt_at cond_at inner_at loop_int_at decl_at local_at simple_at library_at thread_arg_at plain_at value_at paren_at index_at prefix_at expr_at unary_at
text21 = refl

text22 : read 3 (codes "# include < int auto ; # >" ∷ []) ≡ None
unfolding read main read_file stmt_at cond_at inner_at loop_int_at decl_at local_at simple_at library_at thread_arg_at plain_at value_at paren_at index_at prefix_at expr_at unary_at
text22 = refl

text23 : read 3 (codes "# define N" ∷ codes "4" ∷ []) ≡ Some (Unexpected, 1)
unfolding read main read_file stmt_at cond_at inner_at loop_int_at decl_at local_at simple_at library_at thread_arg_at plain_at value_at paren_at index_at prefix_at expr_at unary_at
text23 = refl

text24 : read 3 (codes "# define N 4 5" ∷ []) ≡ Some (Unexpected, 1)
unfolding read main read_file stmt_at cond_at inner_at loop_int_at decl_at local_at simple_at library_at thread_arg_at plain_at value_at paren_at index_at prefix_at expr_at unary_at
text24 = refl

text25 : read 3 (codes "# define N ( - 4 )" ∷ []) ≡ Some (Unexpected, 3)
unfolding read main read_file stmt_at cond_at inner_at loop_int_at decl_at local_at simple_at library_at thread_arg_at plain_at value_at paren_at index_at prefix_at expr_at unary_at
text25 = refl

text26 : read 3 (codes "# pragma" ∷ []) ≡ Some (Unexpected, 1)
unfolding read main read_file stmt_at cond_at inner_at loop_int_at decl_at local_at simple_at library_at thread_arg_at plain_at value_at paren_at index_at prefix_at expr_at unary_at
text26 = refl

text27 : read 3 (codes "int main ( void ) {" ∷ []) ≡ Some (Unexpected, 0)
unfolding read main read_file stmt_at cond_at inner_at loop_int_at decl_at local_at simple_at library_at thread_arg_at plain_at value_at paren_at index_at prefix_at expr_at unary_at
text27 = refl

text28 : read 3 (codes "int main ( void )" ∷ []) ≡ Some (Unexpected, 0)
unfolding read main read_file stmt_at cond_at inner_at loop_int_at decl_at local_at simple_at library_at thread_arg_at plain_at value_at paren_at index_at prefix_at expr_at unary_at
text28 = refl

text29 : read 3 (codes "int x" ∷ []) ≡ Some (Unexpected, 0)
unfolding read main read_file stmt_at cond_at inner_at loop_int_at decl_at local_at simple_at library_at thread_arg_at plain_at value_at paren_at index_at prefix_at expr_at unary_at
text29 = refl

text30 : read 3 (codes "x ;" ∷ []) ≡ Some (Unexpected, 2)
unfolding read main read_file stmt_at cond_at inner_at loop_int_at decl_at local_at simple_at library_at thread_arg_at plain_at value_at paren_at index_at prefix_at expr_at unary_at
text30 = refl

text31 : read 3 (codes "int auto ;" ∷ []) ≡ Some (Unexpected, 2)
unfolding read main read_file stmt_at cond_at inner_at loop_int_at decl_at local_at simple_at library_at thread_arg_at plain_at value_at paren_at index_at prefix_at expr_at unary_at
text31 = refl

text32 : read 3 (main (codes "cfix_add ( 0 ) ; cfix_wait ( 1 ) ; ; ; int i = f ( 1 , 2 ) , j = 3 , k [ 4 ] ; cfix_first ( 2 ) ; pthread_t t , u [ 2 ] ;")) ≡ None
unfolding read main read_file stmt_at cond_at inner_at loop_int_at decl_at local_at simple_at library_at thread_arg_at plain_at value_at paren_at index_at prefix_at expr_at unary_at
text32 = refl

text33 : read 3 (main (codes "; cfix_add ( 0 ) ;")) ≡ Some (Unexpected, 6)
unfolding read main read_file stmt_at cond_at inner_at loop_int_at decl_at local_at simple_at library_at thread_arg_at plain_at value_at paren_at index_at prefix_at expr_at unary_at
text33 = refl

text34 : read 3 (main (codes "x = 1 ; y [ x ] += 2 ; z -= 3 ; z *= 4 ; z /= 5 ; z %= 6 ; z ++ ; z -- ; ++ z ; -- y [ 2 ] ; x = f ( ) ; f ( x , y [ 1 ] ) ; cfix_done ( 1 ) ; cfix_leave ( 0 ) ;")) ≡ None
unfolding read main read_file stmt_at cond_at inner_at loop_int_at decl_at local_at simple_at library_at thread_arg_at plain_at value_at paren_at index_at prefix_at expr_at unary_at
text34 = refl

text35 : read 3 (main (codes "x += f ( 1 ) ;")) ≡ Some (Unexpected, 5)
unfolding read main read_file stmt_at cond_at inner_at loop_int_at decl_at local_at simple_at library_at thread_arg_at plain_at value_at paren_at index_at prefix_at expr_at unary_at
text35 = refl

text36 : read 3 (main (codes "f ( 1 ) + 2 ;")) ≡ Some (Unexpected, 4)
unfolding read main read_file stmt_at cond_at inner_at loop_int_at decl_at local_at simple_at library_at thread_arg_at plain_at value_at paren_at index_at prefix_at expr_at unary_at
text36 = refl

text37 : read 3 (main (codes "x = f ( 1 ) + 2 ;")) ≡ Some (Unexpected, 4)
unfolding read main read_file stmt_at cond_at inner_at loop_int_at decl_at local_at simple_at library_at thread_arg_at plain_at value_at paren_at index_at prefix_at expr_at unary_at
text37 = refl

text38 : read 3 (main (codes "x = 1 + f ( 2 ) ;")) ≡ Some (Unexpected, 5)
unfolding read main read_file stmt_at cond_at inner_at loop_int_at decl_at local_at simple_at library_at thread_arg_at plain_at value_at paren_at index_at prefix_at expr_at unary_at
text38 = refl

text39 : read 3 (main (codes "f ( 1 , ) ;")) ≡ Some (Unexpected, 3)
unfolding read main read_file stmt_at cond_at inner_at loop_int_at decl_at local_at simple_at library_at thread_arg_at plain_at value_at paren_at index_at prefix_at expr_at unary_at
text39 = refl

text40 : read 3 (main (codes "pthread_create ( & t [ 0 ] , NULL , w , NULL ) ; pthread_create ( & t , NULL , w , ( void * ) x ) ; pthread_create ( & t , NULL , w , ( void * ) ( long ) - x ) ; pthread_create ( & t , NULL , w , ( void * ) ( x + 1 ) ) ;")) ≡ None
unfolding read main read_file stmt_at cond_at inner_at loop_int_at decl_at local_at simple_at library_at thread_arg_at plain_at value_at paren_at index_at prefix_at expr_at unary_at
text40 = refl

text41 : read 3 (main (codes "pthread_create ( & t , NULL , w , ( void * ) x + 1 ) ;")) ≡ Some (Unexpected, 5)
unfolding read main read_file stmt_at cond_at inner_at loop_int_at decl_at local_at simple_at library_at thread_arg_at plain_at value_at paren_at index_at prefix_at expr_at unary_at
text41 = refl

text42 : read 3 (main (codes "pthread_create ( & t , NULL , w , x ) ;")) ≡ Some (Unexpected, 4)
unfolding read main read_file stmt_at cond_at inner_at loop_int_at decl_at local_at simple_at library_at thread_arg_at plain_at value_at paren_at index_at prefix_at expr_at unary_at
text42 = refl

text43 : read 3 (main (codes "pthread_join ( t [ 1 ] , NULL ) ; pthread_mutex_lock ( & m ) ; pthread_mutex_unlock ( & m ) ; printf ( \"a\" ) ; printf ( \"%d_%d\" , x , y + 1 ) ; scanf ( \"%d\" , & x ) ; scanf ( \"%d\" , & y [ 1 ] ) ;")) ≡ None
unfolding read main read_file stmt_at cond_at inner_at loop_int_at decl_at local_at simple_at library_at thread_arg_at plain_at value_at paren_at index_at prefix_at expr_at unary_at
text43 = refl

text44 : read 3 (main (codes "pthread_mutex_lock ( & m [ 0 ] ) ;")) ≡ Some (Unexpected, 6)
unfolding read main read_file stmt_at cond_at inner_at loop_int_at decl_at local_at simple_at library_at thread_arg_at plain_at value_at paren_at index_at prefix_at expr_at unary_at
text44 = refl

text45 : read 3 (main (codes "return ; return NULL ; return 0 ; return f ( 1 ) ; return ( 1 ) + 2 ;")) ≡ None
unfolding read main read_file stmt_at cond_at inner_at loop_int_at decl_at local_at simple_at library_at thread_arg_at plain_at value_at paren_at index_at prefix_at expr_at unary_at
text45 = refl

text46 : read 3 (main (codes "return NULL + 1 ;")) ≡ Some (Unexpected, 4)
unfolding read main read_file stmt_at cond_at inner_at loop_int_at decl_at local_at simple_at library_at thread_arg_at plain_at value_at paren_at index_at prefix_at expr_at unary_at
text46 = refl

text47 : read 3 (main (codes "break ; continue ; { } { ; } { int i ; } { pthread_t t ; }")) ≡ None
unfolding read main read_file stmt_at cond_at inner_at loop_int_at decl_at local_at simple_at library_at thread_arg_at plain_at value_at paren_at index_at prefix_at expr_at unary_at
text47 = refl

text48 : read 3 (main (codes "{ cfix_leave ( 1 ) ; return ; } { cfix_leave ( 1 ) ; cfix_add ( 2 ) ; return NULL ; } { cfix_done ( 0 ) ; break ; }")) ≡ None
unfolding read main read_file stmt_at cond_at inner_at loop_int_at decl_at local_at simple_at library_at thread_arg_at plain_at value_at paren_at index_at prefix_at expr_at unary_at
text48 = refl

text49 : read 3 (main (codes "{ cfix_leave ( 1 ) ; return 1 ; }")) ≡ Some (Unexpected, 4)
unfolding read main read_file stmt_at cond_at inner_at loop_int_at decl_at local_at simple_at library_at thread_arg_at plain_at value_at paren_at index_at prefix_at expr_at unary_at
text49 = refl

text50 : read 3 (main (codes "{ cfix_leave ( 1 ) ; x = 1 ; }")) ≡ Some (Unexpected, 6)
unfolding read main read_file stmt_at cond_at inner_at loop_int_at decl_at local_at simple_at library_at thread_arg_at plain_at value_at paren_at index_at prefix_at expr_at unary_at
text50 = refl

text51 : read 3 (main (codes "{ cfix_leave ( 1 ) ; return ; ; }")) ≡ Some (Unexpected, 3)
unfolding read main read_file stmt_at cond_at inner_at loop_int_at decl_at local_at simple_at library_at thread_arg_at plain_at value_at paren_at index_at prefix_at expr_at unary_at
text51 = refl

text52 : read 3 (main (codes "{ int cfix_value = x + 1 ; cfix_leave ( 1 ) ; return cfix_value ; } { int cfix_value = f ( x ) ; cfix_leave ( 1 ) ; cfix_add ( 0 ) ; return cfix_value ; }")) ≡ None
unfolding read main read_file stmt_at cond_at inner_at loop_int_at decl_at local_at simple_at library_at thread_arg_at plain_at value_at paren_at index_at prefix_at expr_at unary_at
text52 = refl

text53 : read 3 (main (codes "{ int cfix_value = 1 ; return cfix_value ; }")) ≡ Some (Unexpected, 5)
unfolding read main read_file stmt_at cond_at inner_at loop_int_at decl_at local_at simple_at library_at thread_arg_at plain_at value_at paren_at index_at prefix_at expr_at unary_at
text53 = refl

text54 : read 3 (main (codes "cfix_value = 1 ;")) ≡ Some (Unexpected, 5)
unfolding read main read_file stmt_at cond_at inner_at loop_int_at decl_at local_at simple_at library_at thread_arg_at plain_at value_at paren_at index_at prefix_at expr_at unary_at
text54 = refl

text55 : read 3 (main (codes "int cfix_value = 1 ;")) ≡ Some (Unexpected, 5)
unfolding read main read_file stmt_at cond_at inner_at loop_int_at decl_at local_at simple_at library_at thread_arg_at plain_at value_at paren_at index_at prefix_at expr_at unary_at
text55 = refl

text56 : read 3 (main (codes "if ( x ) y = 1 ; if ( x ) y = 1 ; else y = 2 ; if ( a ) if ( b ) ; else ; else ; while ( x < 3 ) x ++ ; for ( ; ; ) ; for ( x = 0 ; x < 3 ; x ++ ) f ( x ) ;")) ≡ None
unfolding read main read_file stmt_at cond_at inner_at loop_int_at decl_at local_at simple_at library_at thread_arg_at plain_at value_at paren_at index_at prefix_at expr_at unary_at
text56 = refl

text57 : read 3 (main (codes "if ( x ) ; else ; else ;")) ≡ Some (Unexpected, 3)
unfolding read main read_file stmt_at cond_at inner_at loop_int_at decl_at local_at simple_at library_at thread_arg_at plain_at value_at paren_at index_at prefix_at expr_at unary_at
text57 = refl

text58 : read 3 (main (codes "while ( a ) if ( b ) ; else ; if ( a ) while ( b ) if ( c ) ; else ; else ;")) ≡ None
unfolding read main read_file stmt_at cond_at inner_at loop_int_at decl_at local_at simple_at library_at thread_arg_at plain_at value_at paren_at index_at prefix_at expr_at unary_at
text58 = refl

text59 : read 3 (main (codes "for ( int i = 0 , j ; i ; ++ i , cfix_wait ( 1 ) , cfix_enter ( 0 ) ) { }")) ≡ None
unfolding read main read_file stmt_at cond_at inner_at loop_int_at decl_at local_at simple_at library_at thread_arg_at plain_at value_at paren_at index_at prefix_at expr_at unary_at
text59 = refl

text60 : read 3 (main (codes "for ( int i = f ( 1 ) ; ; ) ;")) ≡ Some (Unexpected, 8)
unfolding read main read_file stmt_at cond_at inner_at loop_int_at decl_at local_at simple_at library_at thread_arg_at plain_at value_at paren_at index_at prefix_at expr_at unary_at
text60 = refl

text61 : read 3 (main (codes "for ( ; ; x ++ , y ++ ) ;")) ≡ Some (Unexpected, 5)
unfolding read main read_file stmt_at cond_at inner_at loop_int_at decl_at local_at simple_at library_at thread_arg_at plain_at value_at paren_at index_at prefix_at expr_at unary_at
text61 = refl

text62 : read 3 (main (codes "for ( x ++ , y ++ ; ; ) ;")) ≡ Some (Unexpected, 8)
unfolding read main read_file stmt_at cond_at inner_at loop_int_at decl_at local_at simple_at library_at thread_arg_at plain_at value_at paren_at index_at prefix_at expr_at unary_at
text62 = refl

text63 : read 3 (main (codes "while ( ) ;")) ≡ Some (Unexpected, 3)
unfolding read main read_file stmt_at cond_at inner_at loop_int_at decl_at local_at simple_at library_at thread_arg_at plain_at value_at paren_at index_at prefix_at expr_at unary_at
text63 = refl

text64 : read 3 (main (codes "while ( ( x ) && ( cfix_enter ( 1 ) , 1 ) ) ; while ( ( x ) || ( cfix_leave ( 1 ) , cfix_add ( 2 ) , 0 ) ) ;")) ≡ None
unfolding read main read_file stmt_at cond_at inner_at loop_int_at decl_at local_at simple_at library_at thread_arg_at plain_at value_at paren_at index_at prefix_at expr_at unary_at
text64 = refl

text65 : read 4 (main (codes "while ( ( ( x < 1 ) && ( cfix_enter ( 1 ) , 1 ) ) || ( cfix_leave ( 1 ) , 0 ) ) ;")) ≡ None
unfolding read main read_file stmt_at cond_at inner_at loop_int_at decl_at local_at simple_at library_at thread_arg_at plain_at value_at paren_at index_at prefix_at expr_at unary_at
text65 = refl

text66 : read 3 (main (codes "while ( ( x ) && ( cfix_enter ( 1 ) , 0 ) ) ;")) ≡ Some (Unexpected, 5)
unfolding read main read_file stmt_at cond_at inner_at loop_int_at decl_at local_at simple_at library_at thread_arg_at plain_at value_at paren_at index_at prefix_at expr_at unary_at
text66 = refl

text67 : read 3 (main (codes "while ( ( x ) || ( cfix_enter ( 1 ) , 1 ) ) ;")) ≡ Some (Unexpected, 5)
unfolding read main read_file stmt_at cond_at inner_at loop_int_at decl_at local_at simple_at library_at thread_arg_at plain_at value_at paren_at index_at prefix_at expr_at unary_at
text67 = refl

text68 : read 3 (main (codes "while ( x && ( cfix_enter ( 1 ) , 1 ) ) ;")) ≡ Some (Unexpected, 10)
unfolding read main read_file stmt_at cond_at inner_at loop_int_at decl_at local_at simple_at library_at thread_arg_at plain_at value_at paren_at index_at prefix_at expr_at unary_at
text68 = refl

text69 : read 3 (main (codes "while ( ( x ) + ( cfix_enter ( 1 ) , 1 ) ) ;")) ≡ Some (Unexpected, 10)
unfolding read main read_file stmt_at cond_at inner_at loop_int_at decl_at local_at simple_at library_at thread_arg_at plain_at value_at paren_at index_at prefix_at expr_at unary_at
text69 = refl

text70 : read 3 (main (codes "while ( ( x ) && ( y ) && ( cfix_enter ( 1 ) , 1 ) ) ;")) ≡ Some (Unexpected, 10)
unfolding read main read_file stmt_at cond_at inner_at loop_int_at decl_at local_at simple_at library_at thread_arg_at plain_at value_at paren_at index_at prefix_at expr_at unary_at
text70 = refl

text71 : read 3 (main (codes "while ( ( x ) && ( cfix_enter ( 1 ) , 1 ) && y ) ;")) ≡ Some (Unexpected, 5)
unfolding read main read_file stmt_at cond_at inner_at loop_int_at decl_at local_at simple_at library_at thread_arg_at plain_at value_at paren_at index_at prefix_at expr_at unary_at
text71 = refl

text72 : read 4 (main (codes "while ( ( ( x ) && ( cfix_enter ( 1 ) , 1 ) ) ) ;")) ≡ Some (Unexpected, 3)
unfolding read main read_file stmt_at cond_at inner_at loop_int_at decl_at local_at simple_at library_at thread_arg_at plain_at value_at paren_at index_at prefix_at expr_at unary_at
text72 = refl

text73 : read 4 (main (codes "while ( ( ( x ) || ( cfix_enter ( 1 ) , 0 ) ) || ( cfix_leave ( 1 ) , 0 ) ) ;")) ≡ Some (Unexpected, 20)
unfolding read main read_file stmt_at cond_at inner_at loop_int_at decl_at local_at simple_at library_at thread_arg_at plain_at value_at paren_at index_at prefix_at expr_at unary_at
text73 = refl

text74 : read 3 (main (codes "while ( ( x ) && ( cfix_enter ( 1 ) ) ) ;")) ≡ Some (Unexpected, 4)
unfolding read main read_file stmt_at cond_at inner_at loop_int_at decl_at local_at simple_at library_at thread_arg_at plain_at value_at paren_at index_at prefix_at expr_at unary_at
text74 = refl

text75 : read 3 (main (codes "x = ( y ) && ( cfix_enter ( 1 ) , 1 ) ;")) ≡ Some (Unexpected, 9)
unfolding read main read_file stmt_at cond_at inner_at loop_int_at decl_at local_at simple_at library_at thread_arg_at plain_at value_at paren_at index_at prefix_at expr_at unary_at
text75 = refl

text76 : read 8 (main (codes "x = - ! - y ; x = a [ b [ 1 ] ] ; x = ( int ) y + ( int ) ( long ) z ; x = 1 * 2 / 3 % 4 + 5 - 6 < 7 ; x = a || b && c == d != e <= f >= g > h ;")) ≡ None
unfolding read main read_file stmt_at cond_at inner_at loop_int_at decl_at local_at simple_at library_at thread_arg_at plain_at value_at paren_at index_at prefix_at expr_at unary_at
text76 = refl

text77 : read 3 (main (codes "x = ( int ) ( y ) ;")) ≡ Some (Unexpected, 4)
unfolding read main read_file stmt_at cond_at inner_at loop_int_at decl_at local_at simple_at library_at thread_arg_at plain_at value_at paren_at index_at prefix_at expr_at unary_at
text77 = refl

text78 : read 3 (main (codes "x = ( int ) 1 ;")) ≡ Some (Unexpected, 3)
unfolding read main read_file stmt_at cond_at inner_at loop_int_at decl_at local_at simple_at library_at thread_arg_at plain_at value_at paren_at index_at prefix_at expr_at unary_at
text78 = refl

text79 : read 3 (main (codes "x = 1 2 ;")) ≡ Some (Unexpected, 3)
unfolding read main read_file stmt_at cond_at inner_at loop_int_at decl_at local_at simple_at library_at thread_arg_at plain_at value_at paren_at index_at prefix_at expr_at unary_at
text79 = refl

text80 : read 3 (main (codes "x = ;")) ≡ Some (Unexpected, 2)
unfolding read main read_file stmt_at cond_at inner_at loop_int_at decl_at local_at simple_at library_at thread_arg_at plain_at value_at paren_at index_at prefix_at expr_at unary_at
text80 = refl

text81 : read 3 (main (codes "x ;")) ≡ Some (Unexpected, 2)
unfolding read main read_file stmt_at cond_at inner_at loop_int_at decl_at local_at simple_at library_at thread_arg_at plain_at value_at paren_at index_at prefix_at expr_at unary_at
text81 = refl

text82 : read 3 (main (codes "x = ( ( ( 1 ) ) ) ;")) ≡ None
unfolding read main read_file stmt_at cond_at inner_at loop_int_at decl_at local_at simple_at library_at thread_arg_at plain_at value_at paren_at index_at prefix_at expr_at unary_at
text82 = refl

text83 : read 3 (main (codes "x = ( ( ( ( 1 ) ) ) ) ;")) ≡ Some (Deep, 8)
unfolding read main read_file stmt_at cond_at inner_at loop_int_at decl_at local_at simple_at library_at thread_arg_at plain_at value_at paren_at index_at prefix_at expr_at unary_at
text83 = refl

text84 : read 3 (main (codes "x = - - - 1 ;")) ≡ None
unfolding read main read_file stmt_at cond_at inner_at loop_int_at decl_at local_at simple_at library_at thread_arg_at plain_at value_at paren_at index_at prefix_at expr_at unary_at
text84 = refl

text85 : read 3 (main (codes "x = - - - - 1 ;")) ≡ Some (Deep, 4)
unfolding read main read_file stmt_at cond_at inner_at loop_int_at decl_at local_at simple_at library_at thread_arg_at plain_at value_at paren_at index_at prefix_at expr_at unary_at
text85 = refl

text86 : read 3 (main (codes "x = 1 + 2 + 3 + 4 ;")) ≡ None
unfolding read main read_file stmt_at cond_at inner_at loop_int_at decl_at local_at simple_at library_at thread_arg_at plain_at value_at paren_at index_at prefix_at expr_at unary_at
text86 = refl

text87 : read 3 (main (codes "x = 1 + 2 + 3 + 4 + 5 ;")) ≡ Some (Deep, 4)
unfolding read main read_file stmt_at cond_at inner_at loop_int_at decl_at local_at simple_at library_at thread_arg_at plain_at value_at paren_at index_at prefix_at expr_at unary_at
text87 = refl

text88 : read 3 (main (codes "x = ( 1 + 2 ) * - ( 3 - 4 ) ;")) ≡ None
unfolding read main read_file stmt_at cond_at inner_at loop_int_at decl_at local_at simple_at library_at thread_arg_at plain_at value_at paren_at index_at prefix_at expr_at unary_at
text88 = refl

text89 : read 3 (main (codes "x = ( 1 + 2 ) * - ( 3 - 4 ) / 5 ;")) ≡ Some (Deep, 4)
unfolding read main read_file stmt_at cond_at inner_at loop_int_at decl_at local_at simple_at library_at thread_arg_at plain_at value_at paren_at index_at prefix_at expr_at unary_at
text89 = refl

text90 : read 3 (main (codes "x = a [ 1 + 2 + 3 + 4 ] + 5 ;")) ≡ Some (Deep, 4)
unfolding read main read_file stmt_at cond_at inner_at loop_int_at decl_at local_at simple_at library_at thread_arg_at plain_at value_at paren_at index_at prefix_at expr_at unary_at
text90 = refl

text91 : read 3 (main (codes "a [ 1 + 2 + 3 + 4 ] = 1 + 2 + 3 + 4 ; f ( 1 + 2 + 3 + 4 , 1 + 2 + 3 + 4 ) ;")) ≡ None
unfolding read main read_file stmt_at cond_at inner_at loop_int_at decl_at local_at simple_at library_at thread_arg_at plain_at value_at paren_at index_at prefix_at expr_at unary_at
text91 = refl

text92 : read 3 (main (codes "{ { { ; } } }")) ≡ None
unfolding read main read_file stmt_at cond_at inner_at loop_int_at decl_at local_at simple_at library_at thread_arg_at plain_at value_at paren_at index_at prefix_at expr_at unary_at
text92 = refl

text93 : read 3 (main (codes "{ { { { } } } }")) ≡ Some (Deep, 6)
unfolding read main read_file stmt_at cond_at inner_at loop_int_at decl_at local_at simple_at library_at thread_arg_at plain_at value_at paren_at index_at prefix_at expr_at unary_at
text93 = refl

text94 : read 3 (main (codes "if ( 1 ) if ( 2 ) if ( 3 ) ;")) ≡ None
unfolding read main read_file stmt_at cond_at inner_at loop_int_at decl_at local_at simple_at library_at thread_arg_at plain_at value_at paren_at index_at prefix_at expr_at unary_at
text94 = refl

text95 : read 3 (main (codes "if ( 1 ) if ( 2 ) if ( 3 ) if ( 4 ) ;")) ≡ Some (Deep, 6)
unfolding read main read_file stmt_at cond_at inner_at loop_int_at decl_at local_at simple_at library_at thread_arg_at plain_at value_at paren_at index_at prefix_at expr_at unary_at
text95 = refl

text96 : read 3 (main (codes "if ( 1 ) ; else if ( 2 ) ; else if ( 3 ) ; else ;")) ≡ None
unfolding read main read_file stmt_at cond_at inner_at loop_int_at decl_at local_at simple_at library_at thread_arg_at plain_at value_at paren_at index_at prefix_at expr_at unary_at
text96 = refl

text97 : read 3 (main (codes "for ( ; ; ) while ( 1 ) ;")) ≡ None
unfolding read main read_file stmt_at cond_at inner_at loop_int_at decl_at local_at simple_at library_at thread_arg_at plain_at value_at paren_at index_at prefix_at expr_at unary_at
text97 = refl

text98 : read 3 (main (codes "for ( ; ; ) for ( ; ; ) ;")) ≡ Some (Deep, 7)
unfolding read main read_file stmt_at cond_at inner_at loop_int_at decl_at local_at simple_at library_at thread_arg_at plain_at value_at paren_at index_at prefix_at expr_at unary_at
text98 = refl

text99 : read 3 (main (codes "for ( ; ; ) { { } }")) ≡ Some (Deep, 4)
unfolding read main read_file stmt_at cond_at inner_at loop_int_at decl_at local_at simple_at library_at thread_arg_at plain_at value_at paren_at index_at prefix_at expr_at unary_at
text99 = refl

text100 : read 3 (main (codes "while ( ( ( ( 1 ) ) ) ) ;")) ≡ Some (Deep, 8)
unfolding read main read_file stmt_at cond_at inner_at loop_int_at decl_at local_at simple_at library_at thread_arg_at plain_at value_at paren_at index_at prefix_at expr_at unary_at
text100 = refl

text101 : read 3 (main (codes "while ( ( ( 1 ) ) && ( cfix_enter ( 1 ) , 1 ) ) ;")) ≡ None
unfolding read main read_file stmt_at cond_at inner_at loop_int_at decl_at local_at simple_at library_at thread_arg_at plain_at value_at paren_at index_at prefix_at expr_at unary_at
text101 = refl

text102 : read 2 (main (codes "while ( ( x ) && ( cfix_enter ( 1 ) , 1 ) ) ;")) ≡ None
unfolding read main read_file stmt_at cond_at inner_at loop_int_at decl_at local_at simple_at library_at thread_arg_at plain_at value_at paren_at index_at prefix_at expr_at unary_at
text102 = refl

text103 : read 1 (main (codes "while ( ( x ) && ( cfix_enter ( 1 ) , 1 ) ) ;")) ≡ Some (Deep, 15)
unfolding read main read_file stmt_at cond_at inner_at loop_int_at decl_at local_at simple_at library_at thread_arg_at plain_at value_at paren_at index_at prefix_at expr_at unary_at
text103 = refl

text104 : read 3 (main (codes "while ( ( a + b + c + d ) && ( cfix_enter ( 1 ) , 1 ) ) ;")) ≡ Some (Deep, 12)
unfolding read main read_file stmt_at cond_at inner_at loop_int_at decl_at local_at simple_at library_at thread_arg_at plain_at value_at paren_at index_at prefix_at expr_at unary_at
text104 = refl

text105 : read 3 (main (codes "while ( ( a + b ) && ( cfix_enter ( 1 ) , 1 ) ) ;")) ≡ None
unfolding read main read_file stmt_at cond_at inner_at loop_int_at decl_at local_at simple_at library_at thread_arg_at plain_at value_at paren_at index_at prefix_at expr_at unary_at
text105 = refl

text106 : read 4 (main (codes "while ( ( ( a + b + c ) && ( cfix_enter ( 1 ) , 1 ) ) || ( cfix_leave ( 1 ) , 0 ) ) ;")) ≡ None
unfolding read main read_file stmt_at cond_at inner_at loop_int_at decl_at local_at simple_at library_at thread_arg_at plain_at value_at paren_at index_at prefix_at expr_at unary_at
text106 = refl

text107 : read 4 (main (codes "while ( ( ( a + b + c + d ) && ( cfix_enter ( 1 ) , 1 ) ) || ( cfix_leave ( 1 ) , 0 ) ) ;")) ≡ Some (Deep, 12)
unfolding read main read_file stmt_at cond_at inner_at loop_int_at decl_at local_at simple_at library_at thread_arg_at plain_at value_at paren_at index_at prefix_at expr_at unary_at
text107 = refl

text108 : read 1 (main (codes "int a [ 3 ] ; f ( x ) ; { cfix_leave ( 1 ) ; return ; }")) ≡ None
unfolding read main read_file stmt_at cond_at inner_at loop_int_at decl_at local_at simple_at library_at thread_arg_at plain_at value_at paren_at index_at prefix_at expr_at unary_at
text108 = refl

text109 : read 0 (main (codes "{ cfix_leave ( 1 ) ; return ; }")) ≡ Some (Deep, 10)
unfolding read main read_file stmt_at cond_at inner_at loop_int_at decl_at local_at simple_at library_at thread_arg_at plain_at value_at paren_at index_at prefix_at expr_at unary_at
text109 = refl

text110 : read 0 (main (codes "int a [ 3 ] ; pthread_t t [ 2 ] ; f ( x ) ; pthread_join ( t , NULL ) ; return f ( 1 ) ;")) ≡ None
unfolding read main read_file stmt_at cond_at inner_at loop_int_at decl_at local_at simple_at library_at thread_arg_at plain_at value_at paren_at index_at prefix_at expr_at unary_at
text110 = refl

text111 : read 0 (main (codes "pthread_create ( & t , NULL , w , ( void * ) x ) ;")) ≡ Some (Deep, 8)
unfolding read main read_file stmt_at cond_at inner_at loop_int_at decl_at local_at simple_at library_at thread_arg_at plain_at value_at paren_at index_at prefix_at expr_at unary_at
text111 = refl

text112 : read 1 (main (codes "pthread_create ( & t , NULL , w , ( void * ) ( long ) x ) ;")) ≡ None
unfolding read main read_file stmt_at cond_at inner_at loop_int_at decl_at local_at simple_at library_at thread_arg_at plain_at value_at paren_at index_at prefix_at expr_at unary_at
text112 = refl

text113 : read 0 (main (codes "x [ 1 ] = 2 ;")) ≡ Some (Deep, 7)
unfolding read main read_file stmt_at cond_at inner_at loop_int_at decl_at local_at simple_at library_at thread_arg_at plain_at value_at paren_at index_at prefix_at expr_at unary_at
text113 = refl

text114 : read 3 (codes "int f ( void ) { x = ( ( ( ( 1 ) ) ) ) ; } int" ∷ []) ≡ Some (Deep, 9)
unfolding read main read_file stmt_at cond_at inner_at loop_int_at decl_at local_at simple_at library_at thread_arg_at plain_at value_at paren_at index_at prefix_at expr_at unary_at
text114 = refl

text115 : read 3 (codes "int x int y ; int f ( void ) { x = ( ( ( ( 1 ) ) ) ) ; }" ∷ []) ≡ Some (Unexpected, 22)
unfolding read main read_file stmt_at cond_at inner_at loop_int_at decl_at local_at simple_at library_at thread_arg_at plain_at value_at paren_at index_at prefix_at expr_at unary_at
text115 = refl

text116 : read 3 (codes "pthread_cond_t c = PTHREAD_COND_INITIALIZER , d ; static pthread_cond_t e ; volatile static pthread_cond_t f ;" ∷ []) ≡ None
unfolding read main read_file stmt_at cond_at inner_at loop_int_at decl_at local_at simple_at library_at thread_arg_at plain_at value_at paren_at index_at prefix_at expr_at unary_at
text116 = refl

text117 : read 3 (codes "pthread_cond_t c = PTHREAD_MUTEX_INITIALIZER ;" ∷ []) ≡ Some (Unexpected, 2)
unfolding read main read_file stmt_at cond_at inner_at loop_int_at decl_at local_at simple_at library_at thread_arg_at plain_at value_at paren_at index_at prefix_at expr_at unary_at
text117 = refl

text118 : read 3 (codes "pthread_cond_t c [ 2 ] ;" ∷ []) ≡ Some (Unexpected, 4)
unfolding read main read_file stmt_at cond_at inner_at loop_int_at decl_at local_at simple_at library_at thread_arg_at plain_at value_at paren_at index_at prefix_at expr_at unary_at
text118 = refl

text119 : read 3 (codes "volatile pthread_cond_t c ; volatile void f ( void ) ;" ∷ []) ≡ Some (Unexpected, 6)
unfolding read main read_file stmt_at cond_at inner_at loop_int_at decl_at local_at simple_at library_at thread_arg_at plain_at value_at paren_at index_at prefix_at expr_at unary_at
text119 = refl

text120 : read 3 (main (codes "pthread_cond_wait ( & c , & m ) ; pthread_cond_signal ( & c ) ; pthread_cond_broadcast ( & c ) ;")) ≡ None
unfolding read main read_file stmt_at cond_at inner_at loop_int_at decl_at local_at simple_at library_at thread_arg_at plain_at value_at paren_at index_at prefix_at expr_at unary_at
text120 = refl

text121 : read 3 (main (codes "pthread_cond_wait ( & c ) ;")) ≡ Some (Unexpected, 3)
unfolding read main read_file stmt_at cond_at inner_at loop_int_at decl_at local_at simple_at library_at thread_arg_at plain_at value_at paren_at index_at prefix_at expr_at unary_at
text121 = refl

text122 : read 3 (main (codes "pthread_cond_signal ( & c , & m ) ;")) ≡ Some (Unexpected, 6)
unfolding read main read_file stmt_at cond_at inner_at loop_int_at decl_at local_at simple_at library_at thread_arg_at plain_at value_at paren_at index_at prefix_at expr_at unary_at
text122 = refl

text123 : read 3 (main (codes "pthread_cond_broadcast ( & c [ 0 ] ) ;")) ≡ Some (Unexpected, 6)
unfolding read main read_file stmt_at cond_at inner_at loop_int_at decl_at local_at simple_at library_at thread_arg_at plain_at value_at paren_at index_at prefix_at expr_at unary_at
text123 = refl

text124 : read 3 (main (codes "pthread_cond_t c ;")) ≡ Some (Unexpected, 4)
unfolding read main read_file stmt_at cond_at inner_at loop_int_at decl_at local_at simple_at library_at thread_arg_at plain_at value_at paren_at index_at prefix_at expr_at unary_at
text124 = refl

-- ---- the limit of 200

repeated : ℕ → List ℕ → List ℕ
repeated zero bytes = []
repeated (suc n) bytes = bytes ++ repeated n bytes

-- 1 in n pairs of parentheses
nested : ℕ → List (List ℕ)
nested n = main (codes "x = " ++ repeated n (codes "( ") ++ codes "1 " ++ repeated n (codes ") ") ++ codes ";")

-- n signs `+` between numbers
added : ℕ → List (List ℕ)
added n = main (codes "x = 1 " ++ repeated n (codes "+ 1 ") ++ codes ";")

nested_shown : read 200 (nested 200) ≡ None
unfolding nested repeated read main read_file stmt_at cond_at inner_at loop_int_at decl_at local_at simple_at library_at thread_arg_at plain_at value_at paren_at index_at prefix_at expr_at unary_at
nested_shown = refl

nested_deep : read 200 (nested 201) ≡ Some (Deep, 205)
unfolding nested repeated read main read_file stmt_at cond_at inner_at loop_int_at decl_at local_at simple_at library_at thread_arg_at plain_at value_at paren_at index_at prefix_at expr_at unary_at
nested_deep = refl

added_shown : read 200 (added 200) ≡ None
unfolding added repeated read main read_file stmt_at cond_at inner_at loop_int_at decl_at local_at simple_at library_at thread_arg_at plain_at value_at paren_at index_at prefix_at expr_at unary_at
added_shown = refl

added_deep : read 200 (added 201) ≡ Some (Deep, 4)
unfolding added repeated read main read_file stmt_at cond_at inner_at loop_int_at decl_at local_at simple_at library_at thread_arg_at plain_at value_at paren_at index_at prefix_at expr_at unary_at
added_deep = refl
