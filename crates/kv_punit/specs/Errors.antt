-- The errors of readers and of the lexer as errors of texts.
use Rattle.kv_lex.specs.declared.token.LexError.{LexError}
use Rattle.kv_lex.specs.declared.token.LexError.TheVariants as lex
use Rattle.kv_pexpr.specs.declared.errors.ReadError.{ReadError}
use Rattle.kv_pexpr.specs.declared.errors.ReadError.TheVariants as reader
use Rattle.kv_punit.specs.declared.errors.TextError.{TextError}
use Rattle.kv_punit.specs.declared.errors.TextError.TheVariants as error

abbrev pub of_reader : ReadError → TextError
of_reader reader.Syntax = error.Syntax
of_reader reader.NoMemory = error.NoMemory

abbrev pub of_lexer : LexError → TextError
of_lexer (lex.Token place) = error.Token place
of_lexer lex.NoMemory = error.NoMemory
