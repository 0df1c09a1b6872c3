-- view: directives as the program keeps them.
use Rattle.sl_preproc_directives.specs.Directives as spec
use Rattle.sl_preproc_directives.specs.declared.directive.Directive.{Directive}
use Rattle.sl_preproc_directives.specs.declared.directive.Directive.TheVariants.{Include, Define, Undef}

abbrev pub directive : Directive → spec.Directive
directive (Include name) = spec.Directive.Includes name.now
directive (Define name value) = spec.Directive.Defines name.now value.now
directive (Undef name) = spec.Directive.Undefines name.now
